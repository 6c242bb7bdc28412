-- A determinant of −1 over whole numbers: with v b = u a + 1, c = v y + a x and d = b x + u y are the only numbers with c (−u) + d v = x and
-- c b + d (−a) = y; so every number of octaves and of generators is made of the two moves, in one way.
use Prim.Native.Nat.{ℕ, zero, suc, ◌+◌, ◌*◌}
use mathlib.Core.Path.{◌≡◌, sym, ap, ap₂, ◌∙◌, subst}
use lib.IntN.{ℤ, pos, neg_ℤ, ◌+ℤ◌, ◌*ℤ◌, *ℤ_comm, *ℤ-negsuc, *ℤ-zero}
use native.Mathlib.Nat.{mul-add, add-mul, mul_assoc, mul_left_comm, one-mul, zero-mul}
use native.Mathlib.Omega.{arith}
use Rattle.math.proofs.Integers.{up, down, Rep, rep_self, rep_neg, rep_add, rep_mul, rep_agree}
use Rattle.mos.specs.declared.Mos.{Mos}
use Rattle.mos.specs.Patterns.{primaries, secondaries, primary, secondary}
use Rattle.mos_moves.specs.Moves.{Table}
use Rattle.mos_moves.specs.Theorems.{ReachedInOneWay, MovesReachAll}
use Rattle.mos_moves.proofs.Going.{Going, shape}
use Rattle.mos_moves.proofs.Walking.{going_at}

-- ---- products of an integer with a natural, and with one below 0

times_pos : (u : ℕ) {z : ℤ} {a b : ℕ} → Rep z a b → Rep (z *ℤ pos u) (u * a) (u * b)
times_pos u {z} {a} {b} r = subst (λ (y : ℤ). Rep y (u * a) (u * b)) (*ℤ_comm (pos u) z) (rep_mul u r)

times_neg : (u : ℕ) {z : ℤ} {a b : ℕ} → Rep z a b → Rep (z *ℤ neg_ℤ (pos u)) (u * b) (u * a)
times_neg zero {z} {a} {b} r =
    subst (λ (y : ℤ). Rep y (0 * b) (0 * a)) (sym (*ℤ-zero z)) (record { eq = omega (arith, zero-mul a, zero-mul b) })
times_neg (suc u) {z} {a} {b} r = subst (λ (y : ℤ). Rep y (suc u * b) (suc u * a)) (sym (*ℤ-negsuc z u)) (rep_neg (times_pos (suc u) r))

-- ---- over naturals

module _ (u v a b : ℕ) (unit : v * b ≡ u * a + 1) where
  -- the determinant, times any number
  vb : (z : ℕ) → v * (b * z) ≡ u * (a * z) + z
  vb z =
      sym (mul_assoc v b z)
      ∙ ap (λ (k : ℕ). k * z) unit
      ∙ add-mul (u * a) 1 z
      ∙ ap₂ (λ (x y : ℕ). x + y) (mul_assoc u a z) (one-mul z)

  bv : (z : ℕ) → b * (v * z) ≡ a * (u * z) + z
  bv z = mul_left_comm b v z ∙ vb z ∙ ap (λ (k : ℕ). k + z) (mul_left_comm u a z)

  -- c (−u) + d v = x and c b + d (−a) = y, for numbers above 0
  across : (z w : ℕ) → v * (b * w + u * z) ≡ u * (v * z + a * w) + w
  across z w = omega (arith, mul-add v (b * w) (u * z), mul-add u (v * z) (a * w), vb w, mul_left_comm v u z)

  along : (z w : ℕ) → b * (v * z + a * w) ≡ a * (b * w + u * z) + z
  along z w = omega (arith, mul-add b (v * z) (a * w), mul-add a (b * w) (u * z), bv z, mul_left_comm b a w)

  -- ---- over whole numbers

  module _ (x y : ℤ) where
    abbrev primary_moves : ℤ
    primary_moves = pos v *ℤ y +ℤ pos a *ℤ x

    abbrev secondary_moves : ℤ
    secondary_moves = pos b *ℤ x +ℤ pos u *ℤ y

    primary_rep : Rep primary_moves (v * up y + a * up x) (v * down y + a * down x)
    primary_rep = rep_add (rep_mul v (rep_self y)) (rep_mul a (rep_self x))

    secondary_rep : Rep secondary_moves (b * up x + u * up y) (b * down x + u * down y)
    secondary_rep = rep_add (rep_mul b (rep_self x)) (rep_mul u (rep_self y))

    octaves_made : primary_moves *ℤ neg_ℤ (pos u) +ℤ secondary_moves *ℤ pos v ≡ x
    octaves_made =
        rep_agree (rep_add (times_neg u primary_rep) (times_pos v secondary_rep)) (rep_self x)
        (omega (arith, across (up y) (up x), across (down y) (down x)))

    generators_made : primary_moves *ℤ pos b +ℤ secondary_moves *ℤ neg_ℤ (pos a) ≡ y
    generators_made =
        rep_agree (rep_add (times_pos b primary_rep) (times_neg a secondary_rep)) (rep_self y)
        (omega (arith, along (up y) (up x), along (down y) (down x)))

    -- the key: with p = b G − u P and s = v P − a G
    module _ (P G p s : ℕ) (first : b * G ≡ u * P + p) (second : v * P ≡ a * G + s) where
      steps : (z w : ℕ) → p * (v * z + a * w) + s * (b * w + u * z) ≡ P * w + G * z
      steps z w =
          let X = v * z + a * w in
          let Y = b * w + u * z in
          let e : b * G * X ≡ u * P * X + p * X = ap (λ (k : ℕ). k * X) first ∙ add-mul (u * P) p X in
          let f : v * P * Y ≡ a * G * Y + s * Y = ap (λ (k : ℕ). k * Y) second ∙ add-mul (a * G) s Y in
          let g : G * (b * X) ≡ G * (a * Y) + G * z = ap (λ (k : ℕ). G * k) (along z w) ∙ mul-add G (a * Y) z in
          let h : P * (v * Y) ≡ P * (u * X) + P * w = ap (λ (k : ℕ). P * k) (across z w) ∙ mul-add P (u * X) w in
          omega (
            arith,
            e,
            f,
            g,
            h,
            mul_assoc b G X ∙ mul_left_comm b G X,
            mul_assoc u P X ∙ mul_left_comm u P X,
            mul_assoc v P Y ∙ mul_left_comm v P Y,
            mul_assoc a G Y ∙ mul_left_comm a G Y,
          )

      key_made : primary_moves *ℤ pos p +ℤ secondary_moves *ℤ pos s ≡ x *ℤ pos P +ℤ y *ℤ pos G
      key_made =
          rep_agree (rep_add (times_pos p primary_rep) (times_pos s secondary_rep))
          (rep_add (times_pos P (rep_self x)) (times_pos G (rep_self y)))
          (omega (arith, steps (up y) (up x), steps (down y) (down x)))

  -- no other numbers of moves make them
  module _ (c d : ℤ) where
    abbrev octaves_of : ℤ
    octaves_of = c *ℤ neg_ℤ (pos u) +ℤ d *ℤ pos v

    abbrev generators_of : ℤ
    generators_of = c *ℤ pos b +ℤ d *ℤ neg_ℤ (pos a)

    octaves_rep : Rep octaves_of (u * down c + v * up d) (u * up c + v * down d)
    octaves_rep = rep_add (times_neg u (rep_self c)) (times_pos v (rep_self d))

    generators_rep : Rep generators_of (b * up c + a * down d) (b * down c + a * up d)
    generators_rep = rep_add (times_pos b (rep_self c)) (times_neg a (rep_self d))

    -- v (b c + a e) + a (u f + v d) and its mirror image
    first_only : (i j k l : ℕ) → v * (b * i + a * j) + a * (u * k + v * l) + k ≡ i + (v * (b * k + a * l) + a * (u * i + v * j))
    first_only i j k l =
        omega (
          arith,
          mul-add v (b * i) (a * j),
          mul-add a (u * k) (v * l),
          mul-add v (b * k) (a * l),
          mul-add a (u * i) (v * j),
          vb i,
          vb k,
          mul_left_comm a u k,
          mul_left_comm a u i,
          mul_left_comm v a j,
          mul_left_comm v a l,
        )

    primary_only : c ≡ pos v *ℤ generators_of +ℤ pos a *ℤ octaves_of
    primary_only =
        sym
        (rep_agree (rep_add (rep_mul v generators_rep) (rep_mul a octaves_rep)) (rep_self c)
        (first_only (up c) (down d) (down c) (up d)))

    second_only : (i j k l : ℕ) → b * (u * k + v * l) + u * (b * i + a * j) + j ≡ l + (b * (u * i + v * j) + u * (b * k + a * l))
    second_only i j k l =
        omega (
          arith,
          mul-add b (u * k) (v * l),
          mul-add u (b * i) (a * j),
          mul-add b (u * i) (v * j),
          mul-add u (b * k) (a * l),
          bv j,
          bv l,
          mul_left_comm u a j,
          mul_left_comm u a l,
          mul_left_comm b u k,
          mul_left_comm b u i,
        )

    secondary_only : d ≡ pos b *ℤ octaves_of +ℤ pos u *ℤ generators_of
    secondary_only =
        sym
        (rep_agree (rep_add (rep_mul b octaves_rep) (rep_mul u generators_rep)) (rep_self d)
        (second_only (up c) (down d) (down c) (up d)))

-- ---- of the moves of a walk

reached_shape : (P G : ℕ) (m : Mos) (t : Table ℤ) (g : Going P G m t) (x y : ℤ) → ReachedInOneWay P G m (shape m g.u g.v) x y
reached_shape P G m t g x y =
    let a = primaries m in
    let b = secondaries m in
    record {
      primary_moves_lem = pos g.v *ℤ y +ℤ pos a *ℤ x;
      secondary_moves_lem = pos b *ℤ x +ℤ pos g.u *ℤ y;
      made =
          record {
            octaves_are = octaves_made g.u g.v a b g.unit x y;
            generators_are = generators_made g.u g.v a b g.unit x y;
          };
      only =
          λ c d made. (
            primary_only g.u g.v a b g.unit c d
                ∙ ap₂ (λ (j k : ℤ). pos g.v *ℤ j +ℤ pos a *ℤ k) made.generators_are made.octaves_are,
            secondary_only g.u g.v a b g.unit c d
                ∙ ap₂ (λ (j k : ℤ). pos b *ℤ j +ℤ pos g.u *ℤ k) made.octaves_are made.generators_are,
          );
      key = key_made g.u g.v a b g.unit x y P G (primary m) (secondary m) g.first g.second;
    }

pub moves_reach_all : MovesReachAll
moves_reach_all P G k m t h at x y =
    let g = going_at P G k m t h at in
    subst (λ (s : Table ℤ). ReachedInOneWay P G m s x y) (sym g.is) (reached_shape P G m t g x y)
