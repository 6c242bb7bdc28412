-- What holds of both orders, for every octave P above 0, every generator G, and every list. Proofs: proofs/.
use Rattle.std.specs.Prelude.{ℕ, ◌≤◌, ◌<◌, List, ◌≡◌, length, get_or, take}
use Rattle.answer.specs.Outcome.{given}
use Rattle.layout.specs.declared.IsomorphicLayout.{IsomorphicLayout}
use Rattle.layout_order.specs.Order.{chain_place, in_chain_order, in_key_order}
use Rattle.layout_order.specs.Answers.{get_chain_order, get_key_order}

-- Theorem: the places are a permutation of the octave: within it, no two keys have one place, and every place is some key's.
pub record PlacesPermute (P G : ℕ) : Type 0 where
  pub within : (i : ℕ) → i < P → chain_place P G i < P
  pub apart : (i j : ℕ) → i < P → j < P → chain_place P G i ≡ chain_place P G j → i ≡ j
  pub each : (j : ℕ) → j < P → (i : ℕ) × (i < P) × (chain_place P G i ≡ j)

abbrev pub ChainOrderIsAPermutation : Type 0
ChainOrderIsAPermutation = (P G : ℕ) → 0 < P → PlacesPermute P G

-- Theorem: key i's entry goes to its place, and the inverse brings it from there; both lists have P entries, whatever the list had.
pub record EntriesGo (P G : ℕ) (entries : List ℕ) : Type 0 where
  pub there : (i : ℕ) → i < P → get_or (in_chain_order P G entries) (chain_place P G i) 0 ≡ get_or entries i 0
  pub back : (i : ℕ) → i < P → get_or (in_key_order P G entries) i 0 ≡ get_or entries (chain_place P G i) 0
  pub there_many : length (in_chain_order P G entries) ≡ P
  pub back_many : length (in_key_order P G entries) ≡ P

abbrev pub EntriesGoToTheirPlaces : Type 0
EntriesGoToTheirPlaces = (P G : ℕ) → 0 < P → (entries : List ℕ) → EntriesGo P G entries

-- Theorem: "The inverse restores the list exactly", either way round: the first P entries, and the whole list where it has no more.
pub record Undone (P G : ℕ) (entries : List ℕ) : Type 0 where
  pub there_and_back : in_key_order P G (in_chain_order P G entries) ≡ take P entries
  pub back_and_there : in_chain_order P G (in_key_order P G entries) ≡ take P entries

abbrev pub EachUndoesTheOther : Type 0
EachUndoesTheOther = (P G : ℕ) → 0 < P → (entries : List ℕ) → P ≤ length entries → Undone P G entries

-- Theorem: the same of the calls: what one of them gives, the other brings back to the entries that went.
pub record RoundTrips (r : IsomorphicLayout) (entries output : List ℕ) : Type 0 where
  pub chain_to_key : get_chain_order r entries ≡ given output → get_key_order r output ≡ given (take r.octave entries)
  pub key_to_chain : get_key_order r entries ≡ given output → get_chain_order r output ≡ given (take r.octave entries)

abbrev pub CallsUndoEachOther : Type 0
CallsUndoEachOther = (r : IsomorphicLayout) (entries output : List ℕ) → RoundTrips r entries output
