-- The entries of a book, turn by turn: there is room for the names of one degree, and then the next degree's are due.
use Rattle.std.specs.Prelude.{Option}
use Prim.Native.Nat.{ℕ, ◌+◌, ◌*◌, ◌%◌, ◌≤◌, ◌<◌}
use native.Mathlib.Nat.{mod-lt, mod-mod, mod-add-mod, mod-eq_of_lt, add_comm, add-zero, add-mul, one-mul, zero-mul, mul-le-mul_right, le_antisymm}
use native.Mathlib.Omega.{arith}
use mathlib.Core.Path.{◌≡◌, refl, sym, ap, ◌∙◌, subst}
use mathlib.Core.List.{List, ◌++◌}
use lib.ListN.{length, length-append}
use Rattle.text.specs.Writing.{Room, Wrote, joined}
use Rattle.text.proofs.Joined.{joined_add, length_joined_le}
use Rattle.book.specs.Books.{pair_text}
use Rattle.book.proofs.Written.{length_pairs}
use Rattle.layout.specs.declared.prepared.Prepared.{Prepared}
use Rattle.layout.specs.Names.{listed_name}
use Rattle.layout.specs.Parts.{layout_in}
use Rattle.math.proofs.Congruence.{add_cong}
use Rattle.notes.specs.Parts.{starred_text}
use Rattle.notes.specs.declared.plans.NamePlan.{NamePlan}
use Rattle.pergen.specs.declared.Accidentals.{Accidentals}
use Rattle.pergen.specs.Pergen.{shown}
use Rattle.pergen.specs.Spelling.{by_coordinates}
use Rattle.pergen.proofs.CarriedWalk.{degree_start, degree_on}
use Rattle.layout_book.specs.Parts.{SpelledPlanned, flat_beside, place_at, entries_in, starred_pair, CyclesFit, Beside}
use Rattle.layout_book.proofs.ReadyNumbers.{Numbers}
use Rattle.layout_book.proofs.BareNames.{turn_place}
use Rattle.layout_book.proofs.Due.{Due, due_none, TurnPlanned, starred_names, starred_pairs, due_turn, length_starred_pairs}
use Rattle.layout_book.proofs.SideBySide.{beside_start, beside_then, beside_length, beside_whole}

-- ---- the place of a turn along the chain

module _ (p : Prepared) (h : Numbers p) where
  abbrev R : ℕ
  R = p.solved.reduced_period

  abbrev N : ℕ
  N = p.found.num_letters

  abbrev inverse : ℕ
  inverse = p.solved.generator_inverse

  abbrev start : ℕ
  start = p.found.start

  turn_below : (t : ℕ) {place : ℕ} → place ≡ turn_place p t → place < R
  turn_below t e = rw e (mod-lt (start + inverse * t % R) (omega (arith, h.walkable.below)))

  turn_first : start ≡ turn_place p 0
  turn_first =
      let l : start < R = omega (arith, h.start_below, h.enough) in
      sym
      (ap (λ (x : ℕ). (start + x) % R) (sym (degree_start inverse R))
      ∙ ap (λ (x : ℕ). x % R) (add-zero start)
      ∙ mod-eq_of_lt l)

  turn_next : (t : ℕ) {place next : ℕ} → place ≡ turn_place p t → next ≡ (place + inverse) % R → next ≡ turn_place p (t + 1)
  turn_next t e f =
      let d = inverse * t % R in
      f
      ∙ ap (λ (y : ℕ). (y + inverse) % R) e
      ∙ mod-add-mod (start + d) R inverse
      ∙ ap (λ (y : ℕ). y % R) (let z : start + d + inverse ≡ d + inverse + start = omega arith in z)
      ∙ add_cong R start (d + inverse) (inverse * (t + 1) % R) (degree_on inverse t R refl ∙ sym (mod-mod (inverse * (t + 1)) R))
      ∙ ap (λ (y : ℕ). y % R) (add_comm (inverse * (t + 1) % R) start)

-- ---- the first k pairs and names

abbrev pub Entries : Prepared → List ℕ → ℕ → List ℕ → ℕ → ℕ → Type 0
Entries p before k after pair text =
    let keys = p.found.octave in
    let name = listed_name (layout_in p) in
    Beside before 4 (joined (pair_text name keys) k) (4 + 8 * keys) (joined name k) after pair text

module _ (p : Prepared) (h : Numbers p) (t : ℕ) (inside : t < p.solved.reduced_period) where
  abbrev cycles : ℕ
  cycles = p.solved.num_cycles

  abbrev keys : ℕ
  keys = p.found.octave

  abbrev name : ℕ → List ℕ
  name = listed_name (layout_in p)

  -- room for all is room for the names behind the pairs
  names_room : (out : List ℕ) → Room out 4 (entries_in (layout_in p)) → Room out (4 + 8 * keys) (joined name keys)
  names_room out room =
      omega (arith, length-append (joined (pair_text name keys) keys) (joined name keys), length_pairs name keys keys)

  next_turn_lem : (t + 1) * cycles ≡ t * cycles + cycles
  next_turn_lem = omega (arith, add-mul t 1 cycles, one-mul cycles)

  turn_inside : (t + 1) * cycles ≤ keys
  turn_inside =
      let q : (t + 1) * cycles ≤ p.solved.reduced_period * cycles = mul-le-mul_right cycles (omega (arith, inside)) in
      omega (arith, q, h.octave_is)

  pairs_apart : {xs ys : List ℕ} {pair text : ℕ} → Entries p xs (t * cycles) ys pair text → pair + 8 * cycles ≤ 4 + 8 * keys
  pairs_apart w = omega (arith, w.first.end, length_pairs name keys (t * cycles), next_turn_lem, turn_inside)

  module _ {plan : NamePlan} (planned : TurnPlanned p t plan)
      {xs ys : List ℕ} {pair text : ℕ} (due : Due p (t * cycles) text) (w : Entries p xs (t * cycles) ys pair text) where
    cycles_fit : Room xs 4 (entries_in (layout_in p)) → CyclesFit ys plan cycles pair text
    cycles_fit room =
        let next = due_turn p h t plan planned text due (text + length (joined (starred_text plan) cycles)) refl in
        record {
          apart = omega (arith, pairs_apart w, due.is);
          room = omega (arith, next.is, names_room xs room, length_joined_le name ((t + 1) * cycles) keys turn_inside, beside_length w);
          small = omega (arith, next.small, turn_inside, h.few_keys);
        }

    module _ {zs : List ℕ} {next : ℕ}
        (v : Beside ys pair (joined (starred_pair plan text) cycles) text (joined (starred_text plan) cycles) zs (pair + 8 * cycles) next) where
      due_next : Due p ((t + 1) * cycles) next
      due_next = due_turn p h t plan planned text due next v.second.end

      entries_next : Entries p xs ((t + 1) * cycles) zs (pair + 8 * cycles) next
      entries_next =
          let more : (f : ℕ → List ℕ) → joined f (t * cycles) ++ joined (λ (c : ℕ). f (t * cycles + c)) cycles ≡ joined f ((t + 1) * cycles)
          = λ f. sym (ap (joined f) next_turn_lem ∙ joined_add f (t * cycles) cycles) in
          let pairs : joined (pair_text name keys) (t * cycles) ++ joined (starred_pair plan text) cycles ≡ joined (pair_text name keys) ((t + 1) * cycles)
          = ap (λ (l : List ℕ). joined (pair_text name keys) (t * cycles) ++ l) (starred_pairs p h t plan planned text due) ∙ more (pair_text name keys) in
          let names : joined name (t * cycles) ++ joined (starred_text plan) cycles ≡ joined name ((t + 1) * cycles)
          = ap (λ (l : List ℕ). joined name (t * cycles) ++ l) (starred_names p h t plan planned) ∙ more name in
          subst (λ (f : List ℕ). Beside xs 4 f (4 + 8 * keys) (joined name ((t + 1) * cycles)) zs (pair + 8 * cycles) next) pairs
          (subst (λ (g : List ℕ). Beside xs 4 (joined (pair_text name keys) (t * cycles) ++ joined (starred_pair plan text) cycles) (4 + 8 * keys) g zs (pair + 8 * cycles) next) names
          (beside_then w v (omega (arith, pairs_apart w, length_starred_pairs plan text cycles))))

-- ---- a loop that writes them, a turn after the other

-- before a turn: its place along the chain, where its first name is due, and all entries before it
pub record Entering (p : Prepared) (before : List ℕ) (c : Option ℕ) (after : List ℕ) (pair text place turn : ℕ) : Type 0 where
  pub numbers : Numbers p
  pub room : Room before 4 (entries_in (layout_in p))
  pub cycle_is : c ≡ shown p.solved.num_cycles 0
  pub place_is : place ≡ turn_place p turn
  pub due : Due p (turn * p.solved.num_cycles) text
  pub entries : Entries p before (turn * p.solved.num_cycles) after pair text
  pub inside : turn ≤ p.solved.reduced_period

pub entering_first : (p : Prepared) → Numbers p → (out : List ℕ) → Room out 4 (entries_in (layout_in p)) → {c : Option ℕ}
    → c ≡ shown p.solved.num_cycles 0 → Entering p out c out 4 (4 + 8 * p.found.octave) p.found.start 0
entering_first p h out room e =
    let none = sym (zero-mul p.solved.num_cycles) in
    record {
      numbers = h;
      room = room;
      cycle_is = e;
      place_is = turn_first p h;
      due = subst (λ (k : ℕ). Due p k (4 + 8 * p.found.octave)) none (due_none p);
      entries = subst (λ (k : ℕ). Entries p out k out 4 (4 + 8 * p.found.octave)) none (beside_start _ _ _ _ _);
      inside = omega arith;
    }

module _ {p : Prepared} {xs : List ℕ} {c : Option ℕ} {ys : List ℕ} {pair text place turn : ℕ}
    (w : Entering p xs c ys pair text place turn) where
  pub place_below : place < p.solved.reduced_period
  place_below = turn_below p w.numbers turn w.place_is

  module _ (more : turn < p.solved.reduced_period) where
    pub pair_fits_lem : pair + 8 * p.solved.num_cycles ≤ 4 + 8 * p.found.octave
    pair_fits_lem = pairs_apart p w.numbers turn more w.entries

    -- the spellings at the place, and a plan of them
    module _ {a : Accidentals} {plan : NamePlan}
        (spelled : a ≡ by_coordinates c p.found.num_letters place (flat_beside p.solved.reduced_period p.found.num_letters place))
        (planned : SpelledPlanned p a plan) where
      turn_planned : TurnPlanned p turn plan
      unfolding place_at
      turn_planned =
          let N = p.found.num_letters in
          let R = p.solved.reduced_period in
          subst (λ (x : Accidentals). SpelledPlanned p x plan)
          (spelled ∙ ap (λ (x : Option ℕ). by_coordinates x N place (flat_beside R N place)) w.cycle_is ∙ ap (place_at p) w.place_is)
          planned

      pub turn_fits : CyclesFit ys plan p.solved.num_cycles pair text
      turn_fits = cycles_fit p w.numbers turn more turn_planned w.due w.entries w.room

      pub entering_next : {zs : List ℕ} {next along : ℕ}
          → Beside ys pair (joined (starred_pair plan text) p.solved.num_cycles) text (joined (starred_text plan) p.solved.num_cycles) zs (pair + 8 * p.solved.num_cycles) next
          → along ≡ (place + p.solved.generator_inverse) % p.solved.reduced_period
          → Entering p xs c zs (pair + 8 * p.solved.num_cycles) next along (turn + 1)
      entering_next v e =
          record {
            numbers = w.numbers;
            room = w.room;
            cycle_is = w.cycle_is;
            place_is = turn_next p w.numbers turn w.place_is e;
            due = due_next p w.numbers turn more turn_planned w.due w.entries v;
            entries = entries_next p w.numbers turn more turn_planned w.due w.entries v;
            inside = omega (arith, more);
          }

  pub entering_length : length ys ≡ length xs
  entering_length = beside_length w.entries

  pub all_entered : p.solved.reduced_period ≤ turn → Wrote xs 4 (entries_in (layout_in p)) ys text
  all_entered done =
      let keys = p.found.octave in
      let end : turn * p.solved.num_cycles ≡ keys
      = ap (λ (t : ℕ). t * p.solved.num_cycles) (le_antisymm w.inside done) ∙ sym w.numbers.octave_is in
      let all = subst (λ (k : ℕ). Entries p xs k ys pair text) end w.entries in
      beside_whole all (omega (arith, all.first.end, length_pairs (listed_name (layout_in p)) keys keys))
