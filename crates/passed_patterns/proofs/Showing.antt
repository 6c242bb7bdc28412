-- The patterns where the search stands: the lines so far, and what is still to come, are all lines.
use Rattle.std.specs.Prelude.{Some, is_some}
use Prim.Native.Nat.{ℕ, ◌≤◌, ◌<◌}
use native.Mathlib.Omega.{arith}
use mathlib.Core.Bool.{Bool, true, false}
use mathlib.Core.Path.{◌≡◌, refl, sym, ap, ◌∙◌}
use mathlib.Core.List.{List, [], ◌∷◌, ◌++◌, append-nil, append_assoc}
use lib.ListN.{length, length-append}
use lib.Dec.{ltb}
use borrow.Author.Tests.{lt-ltb, le-ltb}
use Rattle.text.specs.Decimal.{digits}
use Rattle.text.proofs.Digits.{digits_length}
use Rattle.mos.specs.declared.Mos.{Mos}
use Rattle.mos.specs.Patterns.{count_of, child_of, is_pattern}
use Rattle.mos.specs.Walks.{onward, children}
use Rattle.mos.proofs.Sequences.{children_follow, children_next, children_end, none_of}
use Rattle.mos.proofs.Descent.{child_at, child_keeps_pattern}
use Rattle.streams.specs.declared.output.Output.{Output}
use Rattle.streams.specs.Streams.{Written}
use Rattle.streams.proofs.Onward.{written_none, written_then, written_as}
use Rattle.passed_patterns.specs.Printing.{pattern_line, passed, pattern_lines}

-- a number of 16 bits and the byte behind it
pub short : (n behind : ℕ) → n ≤ 65535 → length (digits n ++ (behind ∷ [])) ≤ 6
short n behind h = omega (arith, length-append (digits n) (behind ∷ []), (digits_length n (omega (arith, h))).few)

-- ---- the lines of a walk, by how many steps its first pattern has

module _ (n : ℕ) (m : Mos) (rest : List Mos) where
  with_test : (test : Bool) → ltb (count_of m) n ≡ test
      → pattern_lines (passed n (m ∷ rest)) ≡ pattern_line m ++ pattern_lines (elim test [ true ↦ passed n rest | false ↦ [] ])
  unfolding passed pattern_lines
  with_test test e = ap (λ (t : Bool). pattern_line m ++ pattern_lines (elim t [ true ↦ passed n rest | false ↦ [] ])) e

  stops : n ≤ count_of m → pattern_lines (passed n (m ∷ rest)) ≡ pattern_line m
  unfolding pattern_lines
  stops h = with_test false (le-ltb (count_of m) n h) ∙ append-nil (pattern_line m)

  goes : count_of m < n → pattern_lines (passed n (m ∷ rest)) ≡ pattern_line m ++ pattern_lines (passed n rest)
  goes h = with_test true (lt-ltb (count_of m) n h)

module _ (n : ℕ) where
  abbrev Lines : Mos → List ℕ
  Lines m = pattern_lines (passed n (children m))

  last_here : (m : Mos) → n ≤ count_of m → Lines m ≡ pattern_line m
  last_here m h = ap (λ (l : List Mos). pattern_lines (passed n l)) (children_follow m) ∙ stops n m (onward (child_of m) children) h

  childless : (m : Mos) → count_of m < n → is_some (child_of m) ≡ false → Lines m ≡ pattern_line m
  unfolding passed pattern_lines
  childless m h e =
      ap (λ (l : List Mos). pattern_lines (passed n l)) (children_end m (none_of _ e)) ∙ goes n m [] h ∙ append-nil (pattern_line m)

  one_more : (m c : Mos) → count_of m < n → child_of m ≡ Some c → Lines m ≡ pattern_line m ++ Lines c
  one_more m c h e = ap (λ (l : List Mos). pattern_lines (passed n l)) (children_next m c e) ∙ goes n m (children c) h

-- ---- the loop

pub record Going (past : Output) (n : ℕ) (genesis : Mos) (done : Output) (pattern : Mos) : Type 0 where
  pub text : List ℕ
  pub written : Written past text done
  pub to_come : text ++ pattern_lines (passed n (children pattern)) ≡ pattern_lines (passed n (children genesis))
  pub is_pattern_lem : is_pattern pattern ≡ true

pub going_start : (past : Output) (n : ℕ) (genesis : Mos) → is_pattern genesis ≡ true → Going past n genesis past genesis
going_start past n genesis p = record { text = []; written = written_none past; to_come = refl; is_pattern_lem = p }

module _ (past : Output) (n : ℕ) (genesis : Mos) (done : Output) (pattern : Mos) (g : Going past n genesis done pattern)
    (after : Output) (w : Written done (pattern_line pattern) after)
  where
    pub going_on : (c : Mos) → count_of pattern < n → child_of pattern ≡ Some c → Going past n genesis after c
    going_on c h e = record {
      text = g.text ++ pattern_line pattern;
      written = written_then g.written w;
      to_come =
          append_assoc g.text (pattern_line pattern) (pattern_lines (passed n (children c)))
          ∙ ap (λ (l : List ℕ). g.text ++ l) (sym (one_more n pattern c h e))
          ∙ g.to_come;
      is_pattern_lem = child_keeps_pattern (child_at e) g.is_pattern_lem;
    }

    ends : pattern_lines (passed n (children pattern)) ≡ pattern_line pattern → Written past (pattern_lines (passed n (children genesis))) after
    ends e = written_as (ap (λ (l : List ℕ). g.text ++ l) (sym e) ∙ g.to_come) (written_then g.written w)

    pub ends_here : n ≤ count_of pattern → Written past (pattern_lines (passed n (children genesis))) after
    ends_here h = ends (last_here n pattern h)

    pub ends_childless : count_of pattern < n → is_some (child_of pattern) ≡ false → Written past (pattern_lines (passed n (children genesis))) after
    ends_childless h e = ends (childless n pattern h e)
