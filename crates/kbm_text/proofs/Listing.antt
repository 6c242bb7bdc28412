-- The keys of the lines before `at` are written; those from `at` on are to come.
use Prim.Native.Nat.{ℕ, suc, ◌+◌, ◌-◌, ◌<◌, ◌≤◌}
use native.Mathlib.Numerals.{add-one}
use native.Mathlib.Omega.{arith}
use mathlib.Core.Path.{◌≡◌, refl, sym, ap, ◌∙◌}
use mathlib.Core.List.{List, [], ◌++◌, append-nil, append_assoc}
use lib.ListN.{length, take, drop, length-append}
use Rattle.text.specs.Writing.{Wrote, Room}
use Rattle.text.proofs.Writing.{wrote_none, then, wrote_as, wrote_length}
use Rattle.kbm_text.specs.Lines.{lines}
use Rattle.kbm_text.specs.Kinds.{kind_of}
use Rattle.kbm_text.specs.Reading.{key_at, not_comment, said, keys_from}
use Rattle.kbm_text.specs.Parts.{Cut, line_after, PutKey}
use Rattle.kbm_text.specs.declared.kinds.Kind.{Kind}
use Rattle.kbm_text.specs.declared.kinds.Kind.TheVariants.{Number, Frequency, Mark, Comment, Other}
use Rattle.kbm_text.specs.declared.scan.Spot.{Spot}
use Rattle.kbm_text.proofs.Scanning.{from, from_cut, none_left}

next_line : (key : List ℕ) (k : ℕ) (rest : List Kind) → key ++ keys_from (suc k) rest ≡ key ++ keys_from (k + 1) rest
next_line key k rest = ap (λ (n : ℕ). key ++ keys_from n rest) (sym (add-one k))

keys_first : (k : ℕ) (kind : Kind) (rest : List Kind) → keys_from k (not_comment kind ++ rest) ≡ key_at k kind ++ keys_from (line_after k kind) rest
unfolding keys_from
keys_first k (Number n) rest = next_line (key_at k (Number n)) k rest
keys_first k Frequency rest = next_line [] k rest
keys_first k Mark rest = next_line [] k rest
keys_first k Comment rest = refl
keys_first k Other rest = next_line [] k rest

count_first : (k : ℕ) (kind : Kind) (rest : List Kind) → k + length (not_comment kind ++ rest) ≡ line_after k kind + length rest
count_first k (Number n) rest = omega arith
count_first k Frequency rest = omega arith
count_first k Mark rest = omega arith
count_first k Comment rest = refl
count_first k Other rest = omega arith

pub record Listing (text before : List ℕ) (at : ℕ) (spot : Spot) (out : List ℕ) : Type 0 where
  pub done : List ℕ
  pub wrote : Wrote before 0 done out spot.put
  pub keys : keys_from 0 (said (lines text)) ≡ done ++ keys_from spot.line (from text at)
  pub count : length (said (lines text)) ≡ spot.line + length (from text at)

pub list_start : (text out : List ℕ) → Listing text out 0 (record { line = 0; put = 0 }) out
list_start text out = record { done = []; wrote = wrote_none out 0; keys = refl; count = omega arith }

module _ (text before : List ℕ) (at : ℕ) (spot : Spot) (out : List ℕ) (g : Listing text before at spot out) where
  module _ (end : ℕ) (c : Cut text at end) (kind : Kind) (e : kind ≡ kind_of (take (end - at) (drop at text))) where
    keys_cut : keys_from 0 (said (lines text)) ≡ (g.done ++ key_at spot.line kind) ++ keys_from (line_after spot.line kind) (from text (end + 1))
    keys_cut =
        g.keys
        ∙ ap (λ (k : List Kind). g.done ++ keys_from spot.line k) (from_cut text at end c kind e)
        ∙ ap (λ (l : List ℕ). g.done ++ l) (keys_first spot.line kind (from text (end + 1)))
        ∙ sym (append_assoc g.done (key_at spot.line kind) (keys_from (line_after spot.line kind) (from text (end + 1))))

    pub list_room : Room before 0 (keys_from 0 (said (lines text))) → Room out spot.put (key_at spot.line kind)
    list_room r =
        omega (
          arith,
          r,
          ap length keys_cut,
          length-append (g.done ++ key_at spot.line kind) (keys_from (line_after spot.line kind) (from text (end + 1))),
          length-append g.done (key_at spot.line kind),
          g.wrote.end,
          wrote_length g.wrote,
        )

    pub list_more : (next : Spot) (after : List ℕ) → PutKey out spot kind after next → Listing text before (end + 1) next after
    list_more next after p =
        record {
          done = g.done ++ key_at spot.line kind;
          wrote = then g.wrote p.wrote;
          keys =
              keys_cut
              ∙ ap (λ (k : ℕ). (g.done ++ key_at spot.line kind) ++ keys_from k (from text (end + 1))) (sym p.line_is);
          count =
              g.count
              ∙ ap (λ (k : List Kind). spot.line + length k) (from_cut text at end c kind e)
              ∙ count_first spot.line kind (from text (end + 1))
              ∙ ap (λ (k : ℕ). k + length (from text (end + 1))) (sym p.line_is);
        }

  pub list_few : length (said (lines text)) ≤ 65542 → spot.line < 65543
  list_few h = omega (arith, g.count)

  pub list_end : length text ≤ at → Wrote before 0 (keys_from 0 (said (lines text))) out spot.put
  unfolding keys_from
  list_end h =
      wrote_as
      (sym
      (g.keys
      ∙ ap (λ (k : List Kind). g.done ++ keys_from spot.line k) (none_left text at h)
      ∙ append-nil g.done))
      g.wrote
