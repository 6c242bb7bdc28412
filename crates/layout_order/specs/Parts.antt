-- What the parts behind the calls promise, by the order that a list has or is to have.
use Rattle.std.specs.Prelude.{ℕ, List}
use Rattle.answer.specs.Outcome.{Outcome}
use Rattle.layout.specs.declared.IsomorphicLayout.{IsomorphicLayout}
use Rattle.layout.specs.Layouts.{Layout}
use Rattle.layout_order.specs.declared.parts.ListOrder.{ListOrder}
use Rattle.layout_order.specs.declared.parts.ListOrder.TheVariants.{Chain, Keys}
use Rattle.layout_order.specs.Order.{chain_place, placed, in_chain_order, in_key_order}
use Rattle.layout_order.specs.Answers.{ordered, get_chain_order, get_key_order}

-- The order that this one is not.
abbrev pub other : ListOrder → ListOrder
other Chain = Keys
other Keys = Chain

-- Where a list in this order has the entry of key i.
unfoldable pub position_in : ListOrder → (P G i : ℕ) → ℕ
position_in Chain P G i = chain_place P G i
position_in Keys P G i = i

-- A list with the entries of the keys below `count` brought into this order from the other.
abbrev pub rearranged : ListOrder → (P G : ℕ) → List ℕ → ℕ → List ℕ → List ℕ
rearranged order P G entries count list = placed (position_in (other order) P G) (position_in order P G) entries count list

-- All of them.
unfoldable pub order_of : ListOrder → (P G : ℕ) → List ℕ → List ℕ
order_of Chain P G entries = in_chain_order P G entries
order_of Keys P G entries = in_key_order P G entries

-- What the calls answer of an accepted layout: question 10 of the list that is read, then all of them.
abbrev pub ordered_in : ListOrder → List ℕ → Layout → Outcome (List ℕ)
ordered_in order entries l = ordered l.octave entries (order_of order l.octave l.generator entries)

-- What the call for this order answers.
unfoldable pub get_order : ListOrder → IsomorphicLayout → List ℕ → Outcome (List ℕ)
get_order Chain r entries = get_chain_order r entries
get_order Keys r entries = get_key_order r entries
