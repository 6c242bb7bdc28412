-- Reading goes on while no line feed came: the bytes so far, and each way in which reading ends.
use Rattle.std.proofs.Common.{◌≡◌, ℕ, ◌+◌, ◌≤◌, min, List, [], ◌∷◌, ◌++◌, length, sym, refl, ap, ◌∙◌, subst, arith, length-append}
use Rattle.line.specs.Lines.{line_feed}
use Rattle.streams.specs.Streams.{longest, Taken, Begun, Moved, Next, OneMore, NoMore}
use Rattle.streams.specs.Reading.{kept_in, Begins, LineRead}
use Rattle.streams.specs.declared.input.Input.{Input}
use Rattle.streams.specs.declared.input.LastRead.{LastRead}
use Rattle.streams.specs.declared.input.LastRead.TheVariants.{Unread, Byte, End}
use Rattle.streams.proofs.OneLine.{Open, open_more, open_whole, open_ended}
use Rattle.streams.proofs.Keeping.{keeps, kept_at_most}

-- as many turns as bytes
pub record Going (buffer : List ℕ) (input : Input) (count turns : ℕ) : Type 0 where
  pub line : List ℕ
  pub taken : Taken line input count
  pub as_many : turns ≡ length line
  pub no_feed_lem : Open line
  pub begins : Begins buffer line
  pub kept_is : input.kept ≡ min longest (length line)

pub going_start : (buffer : List ℕ) (input : Input) → Begun input → Going buffer input 0 0
going_start buffer input b = record {
  line = [];
  taken = b.none;
  as_many = refl;
  no_feed_lem = λ (rest : List ℕ). refl;
  begins = refl;
  kept_is = b.none_kept;
}

pub read_full : (buffer : List ℕ) (input : Input) (count turns : ℕ) → Going buffer input count turns → 18446744073709551615 ≤ turns
    → LineRead buffer input
read_full buffer input count turns g full = record {
  line = g.line;
  count = count;
  taken = g.taken;
  one_line = open_whole g.line g.no_feed_lem;
  to_its_end = λ e h. absurd (omega (arith, g.as_many));
  begins = g.begins;
  kept_is = g.kept_is;
}

-- what a read told, by what it had
module _ (past next : Input) (before count : ℕ) where
  pub moved_byte : (byte : ℕ) → next.last ≡ Byte byte → Next past before next count → OneMore byte past before next count
  moved_byte byte e read = subst (λ (l : LastRead). Moved l past before next count) e read

  moved_end : next.last ≡ End → Next past before next count → NoMore past before next count
  moved_end e read = subst (λ (l : LastRead). Moved l past before next count) e read

  no_byte : (l : LastRead) → Moved l past before next count → ((byte : ℕ) → l ≡ Byte byte → ⊥) → l ≡ End
  no_byte Unread told h = absurd told
  no_byte (Byte byte) told h = absurd (h byte refl)
  no_byte End told h = refl

  pub ended : Next past before next count → ((byte : ℕ) → next.last ≡ Byte byte → ⊥) → next.last ≡ End
  ended told h = no_byte next.last told h

module _ (buffer : List ℕ) (past next : Input) (before count turns : ℕ) (g : Going buffer past before turns) (read : Next past before next count) where
  pub read_to_end : next.last ≡ End → LineRead buffer next
  read_to_end e =
      let told = moved_end past next before count e read in
      record {
        line = g.line;
        count = count;
        taken = told.same g.line g.taken;
        one_line = open_whole g.line g.no_feed_lem;
        to_its_end = λ f h. absurd (f e);
        begins = g.begins;
        kept_is = told.same_kept ∙ g.kept_is;
      }

  module _ (room : longest ≤ length buffer) (byte : ℕ) (goes : next.last ≡ Byte byte) where
    told : OneMore byte past before next count
    told = moved_byte past next before count byte goes read

    abbrev more : List ℕ
    more = g.line ++ byte ∷ []

    longer : length more ≡ length g.line + 1
    longer = length-append g.line (byte ∷ [])

    begins_more : Begins (kept_in buffer past.kept byte) more
    begins_more =
        subst (λ (b : List ℕ). Begins b more)
        (sym (ap (λ (n : ℕ). kept_in buffer n byte) g.kept_is ∙ kept_at_most buffer (length g.line) byte))
        (keeps buffer g.line byte room g.begins)

    kept_more : next.kept ≡ min longest (length more)
    kept_more = omega (arith, told.more_kept, g.kept_is, longer)

    pub going_on : (byte ≡ line_feed → ⊥) → Going (kept_in buffer past.kept byte) next count (turns + 1)
    going_on e = record {
      line = more;
      taken = told.more g.line g.taken;
      as_many = omega (arith, g.as_many, longer);
      no_feed_lem = open_more g.line byte e g.no_feed_lem;
      begins = begins_more;
      kept_is = kept_more;
    }

    pub read_to_feed : byte ≡ line_feed → LineRead (kept_in buffer past.kept byte) next
    read_to_feed e = record {
      line = more;
      count = count;
      taken = told.more g.line g.taken;
      one_line = open_ended g.line byte e g.no_feed_lem;
      to_its_end = λ f h. goes ∙ ap Byte e;
      begins = begins_more;
      kept_is = kept_more;
    }
