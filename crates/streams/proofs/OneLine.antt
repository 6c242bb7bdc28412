-- One line: while no line feed came, what follows is still of the line.
use Rattle.std.proofs.Common.{◌≡◌, ℕ, Bool, true, false, eqb, List, [], ◌∷◌, ◌++◌, sym, refl, ap, ◌∙◌, subst, append-nil, ne_eqb}
use lib.Seq.{append_snoc}
use Rattle.line.specs.Lines.{line_feed}
use Rattle.streams.specs.Reading.{first_line}

pub first_feed : (rest : List ℕ) → first_line (line_feed ∷ rest) ≡ line_feed ∷ []
unfolding first_line
first_feed rest = refl

pub first_other : (byte : ℕ) (rest : List ℕ) → eqb byte line_feed ≡ false → first_line (byte ∷ rest) ≡ byte ∷ first_line rest
unfolding first_line
first_other byte rest e =
    subst (λ (test : Bool). byte ∷ elim test [ true ↦ [] | false ↦ first_line rest ] ≡ byte ∷ first_line rest) (sym e) refl

pub first_none : first_line [] ≡ []
unfolding first_line
first_none = refl

-- no line feed among these bytes
abbrev pub Open : List ℕ → Type 0
Open bytes = (rest : List ℕ) → first_line (bytes ++ rest) ≡ bytes ++ first_line rest

pub open_more : (bytes : List ℕ) (byte : ℕ) → (byte ≡ line_feed → ⊥) → Open bytes → Open (bytes ++ byte ∷ [])
open_more bytes byte e none rest =
    ap first_line (append_snoc bytes byte rest)
    ∙ none (byte ∷ rest)
    ∙ ap (λ (r : List ℕ). bytes ++ r) (first_other byte rest (ne_eqb byte line_feed e))
    ∙ sym (append_snoc bytes byte (first_line rest))

pub open_whole : (bytes : List ℕ) → Open bytes → first_line bytes ≡ bytes
open_whole bytes none =
    ap first_line (sym (append-nil bytes)) ∙ none [] ∙ ap (λ (r : List ℕ). bytes ++ r) first_none ∙ append-nil bytes

pub open_ended : (bytes : List ℕ) (byte : ℕ) → byte ≡ line_feed → Open bytes → first_line (bytes ++ byte ∷ []) ≡ bytes ++ byte ∷ []
open_ended bytes byte e none =
    none (byte ∷ [])
    ∙ ap (λ (b : ℕ). bytes ++ first_line (b ∷ [])) e
    ∙ ap (λ (r : List ℕ). bytes ++ r) (first_feed [])
    ∙ ap (λ (b : ℕ). bytes ++ b ∷ []) (sym e)
