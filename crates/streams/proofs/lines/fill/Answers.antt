use Rattle.std.proofs.Common.{◌≡◌, ℕ, ◌+◌, List, length, sym, refl, ap, ◌∙◌, subst, arith}
use Rattle.streams.specs.Reading.{kept_in, LineRead}
use Rattle.streams.proofs.Going.{Going, going_start, read_full, ended, read_to_end, read_to_feed, going_on}
use Rattle.streams.proofs.Keeping.{length_kept}
use Rattle.streams.proofs.lines.fill.Goals as goal

-- what was kept, at the place that `kept` told
kept_there : (old new : List ℕ) (at byte kept : ℕ) → new ≡ kept_in old at byte → at ≡ kept → new ≡ kept_in old kept byte
kept_there old new at byte kept e f = e ∙ ap (λ (n : ℕ). kept_in old n byte) f

pub loop-init : goal.loop-init
loop-init c = (going_start _ _ c.begin-start.ensures, c.requires, refl)

pub returns-in_default : goal.returns-in_default
returns-in_default c =
    let read = c.next_byte-next.ensures in
    read_to_end _ _ _ _ _ _ c.loop.invariant.0 read (ended _ _ _ _ read (λ byte e. c.in_default.not-Byte byte (c.last.ensures ∙ e)))

pub returns-then-byte-eq10 : goal.returns-then-byte-eq10
returns-then-byte-eq10 c =
    let goes = sym c.last.ensures ∙ c.in-Byte.is in
    let loop = c.loop in
    subst (λ (b : List ℕ). LineRead b c.next_byte-next.result) (sym (kept_there _ _ _ _ _ c.keep.ensures c.kept.ensures))
    (read_to_feed _ _ _ _ _ _ loop.invariant.0 c.next_byte-next.ensures loop.invariant.1 _ goes c.if-byte-eq10.true)

pub loop-preserved : goal.loop-preserved
loop-preserved c =
    let goes = sym c.last.ensures ∙ c.in-Byte.is in
    let loop = c.loop in
    let same = ap length c.keep.ensures ∙ length_kept _ _ _ in (
      subst (λ (b : List ℕ). Going b c.next_byte-next.result c.next_byte-next.new.count (loop.counter + 1)) (sym (kept_there _ _ _ _ _ c.keep.ensures c.kept.ensures))
          (going_on _ _ _ _ _ _ loop.invariant.0 c.next_byte-next.ensures loop.invariant.1 _ goes c.if-byte-eq10.false),
      omega (arith, same, loop.invariant.1),
      same ∙ loop.invariant.2,
    )

pub returns : goal.returns
returns c = read_full _ _ _ _ c.loop.invariant.0 c.loop-test.false
