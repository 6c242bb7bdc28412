-- What is printed for what is kept of a line: the output for the whole line, where that goes by 18 bytes.
use Rattle.std.proofs.Common.{◌≡◌, ℕ, min, Bool, true, false, eqb, List, [], ◌∷◌, ◌++◌, length, take, sym, refl, ap, subst, ◌∙◌, arith, length-take-le, eqb-true}
use lib.Seq.{append_snoc}
use Rattle.line.specs.Lines.{line_feed}
use Rattle.streams.specs.Streams.{longest, Handed}
use Rattle.streams.specs.Reading.{first_line, LineRead, FirstLineIsEnough, LineIsEnough}
use Rattle.streams.specs.Printing.{Printed}
use Rattle.streams.specs.declared.input.Input.{Input}
use Rattle.streams.specs.declared.lines.KeptLine.{KeptLine}
use Rattle.streams.specs.declared.output.Output.{Output}
use Rattle.streams.proofs.OneLine.{first_feed, first_other, first_none}
use Rattle.streams.proofs.Keeping.{kept_inside}

-- ---- an output that goes by nothing past a line feed

module _ (output : List ℕ → List ℕ) (ignored : (line after : List ℕ) → output (line ++ line_feed ∷ after) ≡ output (line ++ line_feed ∷ [])) where
  by_test : (before rest : List ℕ) (byte : ℕ) (test : Bool) → eqb byte line_feed ≡ test
      → output (before ++ (byte ∷ []) ++ first_line rest) ≡ output (before ++ (byte ∷ []) ++ rest)
      → output (before ++ first_line (byte ∷ rest)) ≡ output (before ++ byte ∷ rest)
  by_test before rest byte true t ih =
      let e = eqb-true byte line_feed t in
      ap (λ (b : ℕ). output (before ++ first_line (b ∷ rest))) e
      ∙ ap (λ (r : List ℕ). output (before ++ r)) (first_feed rest)
      ∙ sym (ignored before rest)
      ∙ ap (λ (b : ℕ). output (before ++ b ∷ rest)) (sym e)
  by_test before rest byte false t ih =
      ap (λ (r : List ℕ). output (before ++ r)) (first_other byte rest t)
      ∙ ap output (sym (append_snoc before byte (first_line rest)))
      ∙ ih
      ∙ ap output (append_snoc before byte rest)

  from : (before bytes : List ℕ) → output (before ++ first_line bytes) ≡ output (before ++ bytes)
  from before [] = ap (λ (r : List ℕ). output (before ++ r)) first_none
  from before (byte ∷ rest) = by_test before rest byte (eqb byte line_feed) refl (from (before ++ (byte ∷ [])) rest)

pub first_line_is_enough : FirstLineIsEnough
first_line_is_enough output ignored bytes = from output ignored [] bytes

-- ---- an output that goes by 18 bytes is that of what is kept

module _ (buffer : List ℕ) (input : Input) (kept : ℕ) (read : LineRead buffer input) (few : kept ≡ input.kept) where
  kept_is : kept ≡ min longest (length read.line)
  kept_is = few ∙ read.kept_is

  pub kept_there : kept ≡ length (take kept buffer)
  kept_there = sym (length-take-le kept buffer (omega (arith, kept_is, kept_inside buffer read.line read.begins)))

  pub kept_output : (output : List ℕ → List ℕ) → ((line : List ℕ) → output (take longest line) ≡ output line)
      → output (take kept buffer) ≡ output read.line
  kept_output output enough =
      ap (λ (n : ℕ). output (take n buffer)) kept_is
      ∙ ap output read.begins
      ∙ enough read.line

-- what was handed over for what is kept of a line was handed over for the line
pub printed : (output : List ℕ → List ℕ) → LineIsEnough output → (line : KeptLine) (kept : List ℕ) → kept ≡ take line.input.kept line.buffer
    → (done : Output) → (done.taken ≡ true → Handed (output kept) done) → Printed output line done
printed output enough line kept e done handed read taken =
    subst (λ (text : List ℕ). Handed text done)
    (ap output e ∙ kept_output line.buffer line.input line.input.kept read refl output enough.eighteen)
    (handed taken)
