-- Every row of every list is right: computed tests over the orders of the sides and 0, and over the inclusions of two sets.
use Prim.Native.Nat.{ℕ, zero, suc, ◌<◌}
use mathlib.Core.Path.{◌≡◌, refl, ap, sym, ◌∙◌}
use mathlib.Core.Bool.{Bool, true, false, not, ◌&&◌}
use mathlib.Core.Option.{Option, some, none}
use native.Mathlib.Omega.{arith}
use lib.IntN.{ℤ, pos, negsuc}
use borrow.Author.Tests.{lt-ltb, le-ltb}
use Rattle.formula.specs.Pick.{pick}
use Rattle.formula.specs.Codes.{Rel, eq, lt, le, gt, ge, mem, sub, sube}
use Rattle.formula.proofs.Choices.{never, and_left, and_right, and_both, agree, agree_is}
use Rattle.meaning.proofs.Whole.{Cmp, less, same, more, swap, cmp_n, cmp_z, is_eq, is_lt, is_le, cmp_swap}
use Rattle.keys.specs.Keys as K
use Rattle.keys.specs.Keys.{Side, L, R, Z, Key, key, in_nat, in_nat1, Shape, equal, less_equal, in_set, inℕ, inℕ1, subset, subset_equal, Condition, always, integers, sets, zero_left, zero_right, positive, negative, Marked, rows_of}
use Rattle.keys.proofs.TableIs.{every}

abbrev pub implies : Bool → Bool → Bool
implies true b = b
implies false b = true

abbrev is_val : Option Bool → Bool → Bool
is_val none b = false
is_val (some x) b = agree x b

-- a row whose condition may hold has a key with the row's value
abbrev pub fine : (Condition → Bool) → (Key → Option Bool) → Marked → Bool
fine met value m = implies (met m.condition) (is_val (value m.key_is) m.value)

pub fine_value : (met : Condition → Bool) (value : Key → Option Bool) (m : Marked) → fine met value m ≡ true → met m.condition ≡ true → value m.key_is ≡ some m.value
fine_value met value m e h = go (value m.key_is) (ap (λ (b : Bool). implies b (is_val (value m.key_is) m.value)) (sym h) ∙ e)
  where
    go : (o : Option Bool) → is_val o m.value ≡ true → o ≡ some m.value
    go none e = never e
    go (some x) e = ap some (agree_is x m.value e)

-- ---- whole numbers: l and r compared with 0, and l with r
abbrev possible : Cmp → Cmp → Cmp → Bool
possible less less c = true
possible less same c = is_lt c
possible less more c = is_lt c
possible same less c = is_lt (swap c)
possible same same c = is_eq c
possible same more c = is_lt c
possible more less c = is_lt (swap c)
possible more same c = is_lt (swap c)
possible more more c = true

abbrev pub compared : Cmp → Cmp → Cmp → Side → Side → Cmp
compared lz rz lr L L = same
compared lz rz lr L R = lr
compared lz rz lr L Z = lz
compared lz rz lr R L = swap lr
compared lz rz lr R R = same
compared lz rz lr R Z = rz
compared lz rz lr Z L = swap lz
compared lz rz lr Z R = swap rz
compared lz rz lr Z Z = same

abbrev pub ordered : Rel → Cmp → Option Bool
ordered eq c = some (is_eq c)
ordered lt c = some (is_lt c)
ordered le c = some (is_le c)
ordered gt c = some (is_lt (swap c))
ordered ge c = some (is_le (swap c))
ordered mem c = none
ordered sub c = none
ordered sube c = none

-- the right side of ∈ℕ and ∈ℕ1 is no number
abbrev pub number? : Bool → Side → Bool
number? h L = true
number? h R = h
number? h Z = true

abbrev pub int_value : Bool → Cmp → Cmp → Cmp → Key → Option Bool
int_value h lz rz lr (key q a b) = pick (number? h a && number? h b) (ordered q (compared lz rz lr a b)) none
int_value h lz rz lr (in_nat a) = pick (number? h a) (some (is_le (compared lz rz lr Z a))) none
int_value h lz rz lr (in_nat1 a) = pick (number? h a) (some (is_lt (compared lz rz lr Z a))) none

abbrev pub int_meets : Cmp → Cmp → Condition → Bool
int_meets lz rz always = true
int_meets lz rz integers = true
int_meets lz rz sets = false
int_meets lz rz zero_left = is_eq lz
int_meets lz rz zero_right = is_eq rz
int_meets lz rz positive = is_lt (swap lz)
int_meets lz rz negative = is_lt lz

-- a source of this shape has the value b
abbrev pub int_says : Shape → Cmp → Cmp → Bool → Bool
int_says equal lz lr b = agree (is_eq lr) b
int_says K.less lz lr b = agree (is_lt lr) b
int_says less_equal lz lr b = agree (is_le lr) b
int_says in_set lz lr b = false
int_says inℕ lz lr b = agree (is_le (swap lz)) b
int_says inℕ1 lz lr b = agree (is_lt (swap lz)) b
int_says subset lz lr b = false
int_says subset_equal lz lr b = false

abbrev pub two_numbers : Shape → Bool
two_numbers equal = true
two_numbers K.less = true
two_numbers less_equal = true
two_numbers in_set = false
two_numbers inℕ = false
two_numbers inℕ1 = false
two_numbers subset = false
two_numbers subset_equal = false

-- ---- sets: u is l ⊆ r, v is r ⊆ l
abbrev included : Rel → Bool → Bool → Option Bool
included eq u v = some (u && v)
included lt u v = none
included le u v = none
included gt u v = none
included ge u v = none
included mem u v = none
included sub u v = some (u && not v)
included sube u v = some u

abbrev pub set_value : Bool → Bool → Key → Option Bool
set_value u v (key q L R) = included q u v
set_value u v (key q R L) = included q v u
set_value u v (key q L L) = none
set_value u v (key q L Z) = none
set_value u v (key q R R) = none
set_value u v (key q R Z) = none
set_value u v (key q Z L) = none
set_value u v (key q Z R) = none
set_value u v (key q Z Z) = none
set_value u v (in_nat a) = none
set_value u v (in_nat1 a) = none

abbrev pub set_meets : Condition → Bool
set_meets always = true
set_meets integers = false
set_meets sets = true
set_meets zero_left = false
set_meets zero_right = false
set_meets positive = false
set_meets negative = false

abbrev pub set_says : Shape → Bool → Bool → Bool → Bool
set_says equal u v b = agree (u && v) b
set_says K.less u v b = false
set_says less_equal u v b = false
set_says in_set u v b = false
set_says inℕ u v b = false
set_says inℕ1 u v b = false
set_says subset u v b = agree (u && not v) b
set_says subset_equal u v b = agree u b

-- ---- = of other values, and ∈ of a set: what the source itself says
abbrev pub crossed : Bool → Side → Side → Option Bool
crossed b L R = some b
crossed b R L = some b
crossed b L L = none
crossed b L Z = none
crossed b R R = none
crossed b R Z = none
crossed b Z L = none
crossed b Z R = none
crossed b Z Z = none

abbrev pub equal_value : Bool → Key → Option Bool
equal_value b (key eq x y) = crossed b x y
equal_value b (key lt x y) = none
equal_value b (key le x y) = none
equal_value b (key gt x y) = none
equal_value b (key ge x y) = none
equal_value b (key mem x y) = none
equal_value b (key sub x y) = none
equal_value b (key sube x y) = none
equal_value b (in_nat a) = none
equal_value b (in_nat1 a) = none

abbrev pub member_value : Bool → Key → Option Bool
member_value b (key eq x y) = none
member_value b (key lt x y) = none
member_value b (key le x y) = none
member_value b (key gt x y) = none
member_value b (key ge x y) = none
member_value b (key mem L R) = some b
member_value b (key mem L L) = none
member_value b (key mem L Z) = none
member_value b (key mem R x) = none
member_value b (key mem Z x) = none
member_value b (key sub x y) = none
member_value b (key sube x y) = none
member_value b (in_nat a) = none
member_value b (in_nat1 a) = none

abbrev pub plain_meets : Condition → Bool
plain_meets always = true
plain_meets integers = false
plain_meets sets = false
plain_meets zero_left = false
plain_meets zero_right = false
plain_meets positive = false
plain_meets negative = false

abbrev pub any_meets : Condition → Bool
any_meets c = true

-- ---- the tests
abbrev all_cmp : (Cmp → Bool) → Bool
all_cmp f = f less && (f same && f more)

abbrev all_bool : (Bool → Bool) → Bool
all_bool f = f true && f false

abbrev all_shapes : (Shape → Bool) → Bool
all_shapes f = f equal && (f K.less && (f less_equal && (f in_set && (f inℕ && (f inℕ1 && (f subset && f subset_equal))))))

abbrev int_test : Shape → Bool → Cmp → Cmp → Cmp → Bool
int_test q b lz rz lr = implies (possible lz rz lr && int_says q lz lr b) (every (fine (int_meets lz rz) (int_value (two_numbers q) lz rz lr)) (rows_of b q))

abbrev set_test : Shape → Bool → Bool → Bool → Bool
set_test q b u v = implies (set_says q u v b) (every (fine set_meets (set_value u v)) (rows_of b q))

int_test_law : all_shapes (λ q. all_bool (λ b. all_cmp (λ lz. all_cmp (λ rz. all_cmp (λ lr. int_test q b lz rz lr))))) ≡ true
unfolding rows_of
int_test_law = refl

set_test_law : all_shapes (λ q. all_bool (λ b. all_bool (λ u. all_bool (λ v. set_test q b u v)))) ≡ true
unfolding rows_of
set_test_law = refl

self_test : all_bool (λ b. every (fine plain_meets (equal_value b)) (rows_of b equal) && every (fine any_meets (member_value b)) (rows_of b in_set)) ≡ true
unfolding rows_of
self_test = refl

-- ---- what they say
at_cmp : (f : Cmp → Bool) → all_cmp f ≡ true → (c : Cmp) → f c ≡ true
at_cmp f e less = and_left (f less) _ e
at_cmp f e same = and_left (f same) _ (and_right (f less) _ e)
at_cmp f e more = and_right (f same) _ (and_right (f less) _ e)

at_bool : (f : Bool → Bool) → all_bool f ≡ true → (b : Bool) → f b ≡ true
at_bool f e true = and_left (f true) _ e
at_bool f e false = and_right (f true) _ e

at_shape : (f : Shape → Bool) → all_shapes f ≡ true → (q : Shape) → f q ≡ true
at_shape f e equal = and_left (f equal) _ e
at_shape f e K.less = and_left (f K.less) _ (and_right (f equal) _ e)
at_shape f e less_equal = and_left (f less_equal) _ (and_right (f K.less) _ (and_right (f equal) _ e))
at_shape f e in_set = and_left (f in_set) _ (and_right (f less_equal) _ (and_right (f K.less) _ (and_right (f equal) _ e)))
at_shape f e inℕ = and_left (f inℕ) _ (and_right (f in_set) _ (and_right (f less_equal) _ (and_right (f K.less) _ (and_right (f equal) _ e))))
at_shape f e inℕ1 = and_left (f inℕ1) _ (and_right (f inℕ) _ (and_right (f in_set) _ (and_right (f less_equal) _ (and_right (f K.less) _ (and_right (f equal) _ e)))))
at_shape f e subset = and_left (f subset) _ (and_right (f inℕ1) _ (and_right (f inℕ) _ (and_right (f in_set) _ (and_right (f less_equal) _ (and_right (f K.less) _ (and_right (f equal) _ e))))))
at_shape f e subset_equal = and_right (f subset) _ (and_right (f inℕ1) _ (and_right (f inℕ) _ (and_right (f in_set) _ (and_right (f less_equal) _ (and_right (f K.less) _ (and_right (f equal) _ e))))))

met : (a b : Bool) → implies a b ≡ true → a ≡ true → b ≡ true
met true b e h = e
met false b e h = never h

-- numbers x and y in place of l and r
cmp_less : (a b : ℕ) → a < b → cmp_n a b ≡ less
cmp_less a b h = rw (lt-ltb a b h)

pub cmp_more : (a b : ℕ) → b < a → cmp_n a b ≡ more
cmp_more a b h = rw (le-ltb a b (omega arith), lt-ltb b a h)

possible_is : (x y : ℤ) → possible (cmp_z x (pos 0)) (cmp_z y (pos 0)) (cmp_z x y) ≡ true
possible_is (pos zero) (pos zero) = refl
possible_is (pos zero) (pos (suc b)) = rw (cmp_more (suc b) 0 (omega arith), cmp_less 0 (suc b) (omega arith)) refl
possible_is (pos zero) (negsuc b) = refl
possible_is (pos (suc a)) (pos zero) = rw (cmp_more (suc a) 0 (omega arith)) refl
possible_is (pos (suc a)) (pos (suc b)) = rw (cmp_more (suc a) 0 (omega arith), cmp_more (suc b) 0 (omega arith)) refl
possible_is (pos (suc a)) (negsuc b) = rw (cmp_more (suc a) 0 (omega arith)) refl
possible_is (negsuc a) (pos zero) = refl
possible_is (negsuc a) (pos (suc b)) = rw (cmp_more (suc b) 0 (omega arith)) refl
possible_is (negsuc a) (negsuc b) = refl

module _ (b : Bool) (x y : ℤ) where
  abbrev pub int_world : Shape → Marked → Bool
  int_world q = fine (int_meets (cmp_z x (pos 0)) (cmp_z y (pos 0))) (int_value (two_numbers q) (cmp_z x (pos 0)) (cmp_z y (pos 0)) (cmp_z x y))

  pub int_fine : (q : Shape) → int_says q (cmp_z x (pos 0)) (cmp_z x y) b ≡ true → every (int_world q) (rows_of b q) ≡ true
  int_fine q h =
      let lz = cmp_z x (pos 0) in
      let rz = cmp_z y (pos 0) in
      let lr = cmp_z x y in
      let e = at_cmp (λ lr. int_test q b lz rz lr) (at_cmp (λ rz. all_cmp (λ lr. int_test q b lz rz lr)) (at_cmp (λ lz. all_cmp (λ rz. all_cmp (λ lr. int_test q b lz rz lr)))
      (at_bool (λ b. all_cmp (λ lz. all_cmp (λ rz. all_cmp (λ lr. int_test q b lz rz lr)))) (at_shape (λ q. all_bool (λ b. all_cmp (λ lz. all_cmp (λ rz. all_cmp (λ lr. int_test q b lz rz lr))))) int_test_law q) b) lz) rz) lr in
      met (possible lz rz lr && int_says q lz lr b) (every (int_world q) (rows_of b q)) e (and_both _ _ (possible_is x y) h)

pub set_fine : (b u v : Bool) (q : Shape) → set_says q u v b ≡ true → every (fine set_meets (set_value u v)) (rows_of b q) ≡ true
set_fine b u v q h =
    let e = at_bool (λ v. set_test q b u v) (at_bool (λ u. all_bool (λ v. set_test q b u v)) (at_bool (λ b. all_bool (λ u. all_bool (λ v. set_test q b u v)))
    (at_shape (λ q. all_bool (λ b. all_bool (λ u. all_bool (λ v. set_test q b u v)))) set_test_law q) b) u) v in
    met (set_says q u v b) (every (fine set_meets (set_value u v)) (rows_of b q)) e h

self_fine : (b : Bool) → (every (fine plain_meets (equal_value b)) (rows_of b equal) && every (fine any_meets (member_value b)) (rows_of b in_set)) ≡ true
self_fine = at_bool (λ b. every (fine plain_meets (equal_value b)) (rows_of b equal) && every (fine any_meets (member_value b)) (rows_of b in_set)) self_test

pub equal_fine : (b : Bool) → every (fine plain_meets (equal_value b)) (rows_of b equal) ≡ true
equal_fine b = and_left _ _ (self_fine b)

pub member_fine : (b : Bool) → every (fine any_meets (member_value b)) (rows_of b in_set) ≡ true
member_fine b = and_right (every (fine plain_meets (equal_value b)) (rows_of b equal)) _ (self_fine b)

-- ---- the sides as numbers
abbrev pub number_of : ℤ → ℤ → Side → ℤ
number_of x y L = x
number_of x y R = y
number_of x y Z = pos 0

swap_same : (c : Cmp) → c ≡ swap c → c ≡ same
swap_same less p = cc
swap_same same p = refl
swap_same more p = cc

cmp_refl : (x : ℤ) → cmp_z x x ≡ same
cmp_refl x = swap_same (cmp_z x x) (cmp_swap x x)

pub compared_is : (x y : ℤ) (a b : Side) → cmp_z (number_of x y a) (number_of x y b) ≡ compared (cmp_z x (pos 0)) (cmp_z y (pos 0)) (cmp_z x y) a b
compared_is x y L L = cmp_refl x
compared_is x y L R = refl
compared_is x y L Z = refl
compared_is x y R L = cmp_swap x y
compared_is x y R R = cmp_refl y
compared_is x y R Z = refl
compared_is x y Z L = cmp_swap x (pos 0)
compared_is x y Z R = cmp_swap y (pos 0)
compared_is x y Z Z = refl
