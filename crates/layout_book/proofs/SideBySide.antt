-- Two texts that grow side by side in one slice, the second behind the place where the first will end: stores at places apart change order.
use Prim.Native.Nat.{ℕ, suc, ◌+◌, ◌≤◌, ◌<◌}
use mathlib.Core.Path.{◌≡◌, refl, ap, ◌∙◌, subst}
use mathlib.Core.List.{List, [], ◌∷◌, ◌++◌}
use native.Mathlib.Omega.{arith}
use lib.ListN.{length, set}
use lib.Seq.{sets, set_comm}
use Rattle.text.specs.Writing.{Room, Wrote, joined}
use Rattle.text.proofs.Writing.{then, wrote_length}
use Rattle.text.proofs.Joined.{joined_start, joined_step, joined_room}
use Rattle.layout_book.specs.Parts.{Beside}

-- one store before a run of stores, or after it
store_apart : (u l : List ℕ) (i j a : ℕ) → i < j → set (sets l j u) i a ≡ sets (set l i a) j u
store_apart [] l i j a h = refl
store_apart (b ∷ u) l i j a h =
    store_apart u (set l j b) i (suc j) a (omega arith)
    ∙ ap (λ (k : List ℕ). sets k (suc j) u) (set_comm l j i b a (λ e. let z : ⊥ = omega arith in z))

sets_apart : (t u l : List ℕ) (i j : ℕ) → i + length t ≤ j → sets (sets l j u) i t ≡ sets (sets l i t) j u
sets_apart [] u l i j h = refl
sets_apart (a ∷ t) u l i j h =
    ap (λ (k : List ℕ). sets k (suc i) t) (store_apart u l i j a (omega arith)) ∙ sets_apart t u (set l i a) (suc i) j (omega arith)

pub beside_length : {xs front text ys : List ℕ} {at behind place next : ℕ} → Beside xs at front behind text ys place next → length ys ≡ length xs
beside_length b = wrote_length b.second ∙ wrote_length b.first

module _ (f g : ℕ → List ℕ) (xs : List ℕ) (at behind : ℕ) where
  pub beside_start : Beside xs at (joined f 0) behind (joined g 0) xs at behind
  beside_start = record { middle = xs; first = joined_start f xs at; second = joined_start g xs behind }

  module _ (k : ℕ) {ys : List ℕ} {place next : ℕ} (b : Beside xs at (joined f k) behind (joined g k) ys place next) where
    -- room for the next part of the second text
    pub beside_room : (n : ℕ) → k < n → Room xs behind (joined g n) → Room ys next (g k)
    beside_room n h r = joined_room g k n h b.second (omega (arith, wrote_length b.first))

    -- one part more of each, the second text's first
    pub beside_more : {zs ws : List ℕ} {end after : ℕ} → Wrote ys next (g k) zs end → Wrote zs place (f k) ws after → place + length (f k) ≤ behind
        → Beside xs at (joined f (k + 1)) behind (joined g (k + 1)) ws after end
    beside_more {zs} {ws} {end} {after} v w h =
        let both = joined_step g k b.second v in
        record {
          middle = sets b.middle place (f k);
          first = joined_step f k b.first (record { content = refl; end = w.end });
          second = record {
            content =
                w.content
                ∙ ap (λ (l : List ℕ). sets l place (f k)) both.content
                ∙ sets_apart (f k) (joined g (k + 1)) b.middle place behind h;
            end = both.end;
          };
        }

-- more of each, side by side again
pub beside_then : {xs f g ys u v zs : List ℕ} {at behind place next after end : ℕ} → Beside xs at f behind g ys place next → Beside ys place u next v zs after end
    → place + length u ≤ behind → Beside xs at (f ++ u) behind (g ++ v) zs after end
beside_then {xs} {f} {g} {ys} {u} {v} {zs} {at} {behind} {place} {next} {after} {end} b c h =
    let moved : c.middle ≡ sets (sets b.middle place u) behind g
    = c.first.content ∙ ap (λ (l : List ℕ). sets l place u) b.second.content ∙ sets_apart u g b.middle place behind h in
    record {
      middle = sets b.middle place u;
      first = then {t = f} {u = u} b.first (record { content = refl; end = c.first.end });
      second = then {t = g} (record { content = moved; end = b.second.end }) c.second;
    }

-- where the first ends the second begins
pub beside_whole : {xs front text ys : List ℕ} {at behind place next : ℕ} → Beside xs at front behind text ys place next → behind ≡ place
    → Wrote xs at (front ++ text) ys next
beside_whole {xs} {front} {text} {ys} {at} {behind} {place} {next} b e =
    then b.first (subst (λ (k : ℕ). Wrote b.middle k text ys next) e b.second)
