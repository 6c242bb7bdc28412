-- Which bytes were taken from standard input and which were handed over to standard output. What a read or a write moves no contract of the
-- kit's library can say. So two relations name the bytes, and both are shut: they are marked neither `abbrev` nor `unfoldable`, so no other
-- module opens them, and whoever says that bytes were moved has it from the contracts of `begin`, `next_byte` and `write`. The laws at the
-- end are for the proofs of these functions and are part of the abstraction: what they ask of an `Input` or an `Output`, its count,
-- no contract tells, so no caller can show it.
use Rattle.std.specs.Prelude.{◌≡◌, ℕ, ◌+◌, ◌%◌, min, true, List, [], ◌∷◌, ◌++◌, length}
use Rattle.std.proofs.Common.{arith, length-append}
use Rattle.streams.specs.declared.input.Input.{Input}
use Rattle.streams.specs.declared.input.LastRead.{LastRead}
use Rattle.streams.specs.declared.input.LastRead.TheVariants.{Unread, Byte, End}
use Rattle.streams.specs.declared.output.Output.{Output}

-- The counts go round at 2^64.
abbrev round : ℕ
round = 18446744073709551616

-- No line of question 14 is longer: three times five digits, two spaces, a line feed.
abbrev pub longest : ℕ
longest = 18

-- ---- standard output

-- These bytes were handed over, one part after the other.
pub Handed : List ℕ → Output → Type 0
Handed bytes done = done.handed ≡ length bytes % round

-- What `begin` promises: nothing is handed over, and nothing was not taken.
pub record Opened (done : Output) : Type 0 where
  pub none : Handed [] done
  pub all : done.taken ≡ true

-- What `write` promises: the part was handed over after the parts before it; all is taken only where those were.
pub record Written (past : Output) (text : List ℕ) (done : Output) : Type 0 where
  pub next : (bytes : List ℕ) → Handed bytes past → Handed (bytes ++ text) done
  pub all : done.taken ≡ true → past.taken ≡ true

-- ---- standard input

-- These bytes were taken, one after the other; the lent count is that of the last read.
pub Taken : List ℕ → Input → ℕ → Type 0
Taken bytes input count = (input.taken ≡ length bytes % round) × (count ≡ input.taken)

-- What `begin` promises: nothing is taken, and the input is not said to have ended.
pub record Begun (input : Input) : Type 0 where
  pub none : Taken [] input 0
  pub none_kept : input.kept ≡ 0
  pub not_ended : input.last ≡ Unread

-- What `next_byte` promises where the input ended: nothing more.
pub record NoMore (past : Input) (before : ℕ) (input : Input) (count : ℕ) : Type 0 where
  pub same : (bytes : List ℕ) → Taken bytes past before → Taken bytes input count
  pub same_kept : input.kept ≡ past.kept

-- And else: one byte more, which is the last.
pub record OneMore (byte : ℕ) (past : Input) (before : ℕ) (input : Input) (count : ℕ) : Type 0 where
  pub more : (bytes : List ℕ) → Taken bytes past before → Taken (bytes ++ byte ∷ []) input count
  pub more_kept : input.kept ≡ min longest (past.kept + 1)

abbrev pub Moved : LastRead → Input → ℕ → Input → ℕ → Type 0
Moved Unread past before input count = ⊥
Moved (Byte byte) past before input count = OneMore byte past before input count
Moved End past before input count = NoMore past before input count

-- What `next_byte` promises, by what it read.
abbrev pub Next : Input → ℕ → Input → ℕ → Type 0
Next past before input count = Moved input.last past before input count

-- ---- laws for the proofs of `begin`, `write` and `next_byte`

pub handed_none : (done : Output) → done.handed ≡ 0 → Handed [] done
unfolding Handed
handed_none done e = omega (arith, e)

pub handed_more : (past done : Output) (bytes text : List ℕ) → done.handed ≡ (past.handed + length text) % round
    → Handed bytes past → Handed (bytes ++ text) done
unfolding Handed
handed_more past done bytes text e h = omega (arith, e, h, length-append bytes text)

pub taken_none : (input : Input) → input.taken ≡ 0 → Taken [] input 0
unfolding Taken
taken_none input e = (omega (arith, e), omega (arith, e))

pub taken_more : (past input : Input) (before count : ℕ) (bytes : List ℕ) (byte : ℕ)
    → input.taken ≡ (past.taken + 1) % round → count ≡ (before + 1) % round
    → Taken bytes past before → Taken (bytes ++ byte ∷ []) input count
unfolding Taken
taken_more past input before count bytes byte e f h =
    (omega (arith, e, h.0, length-append bytes (byte ∷ [])), omega (arith, e, f, h.1))

pub taken_same : (past input : Input) (count : ℕ) (bytes : List ℕ) → input.taken ≡ past.taken → Taken bytes past count → Taken bytes input count
unfolding Taken
taken_same past input count bytes e h = (omega (arith, e, h.0), omega (arith, e, h.1))
