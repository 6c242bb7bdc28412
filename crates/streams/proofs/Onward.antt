-- Parts that are handed over one after the other.
use Rattle.std.proofs.Common.{◌≡◌, ℕ, List, [], ◌++◌, sym, subst, append_assoc, append-nil}
use Rattle.streams.specs.declared.output.Output.{Output}
use Rattle.streams.specs.Streams.{Handed, Written}

pub written_none : (past : Output) → Written past [] past
written_none past =
    record {
      next = λ (bytes : List ℕ) h. subst (λ (l : List ℕ). Handed l past) (sym (append-nil bytes)) h;
      all = λ t. t;
    }

pub written_then : {past mid done : Output} {text more : List ℕ} → Written past text mid → Written mid more done → Written past (text ++ more) done
written_then {past} {mid} {done} {text} {more} v w =
    record {
      next = λ (bytes : List ℕ) h. subst (λ (l : List ℕ). Handed l done) (append_assoc bytes text more) (w.next (bytes ++ text) (v.next bytes h));
      all = λ t. v.all (w.all t);
    }

pub written_as : {past done : Output} {text same : List ℕ} → text ≡ same → Written past text done → Written past same done
written_as {past} {done} e w = subst (λ (l : List ℕ). Written past l done) e w

-- all parts from the first on
pub written_first : {start done : Output} {text : List ℕ} → Handed [] start → Written start text done → Handed text done
written_first none w = w.next [] none
