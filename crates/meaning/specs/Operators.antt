-- What each operator makes of the values of its operands; none: no value.
use Rattle.std.specs.Prelude.{ℕ, ◌^◌, List, [], ◌∷◌, Bool, true, false, not, ◌&&◌, ◌||◌, ltb, ℤ, pos, neg_ℤ, ◌+ℤ◌, ◌-ℤ◌, ◌*ℤ◌}
use Rattle.std.specs.Bool.{beq}
use Rattle.std.proofs.Math.Option.{Option, some, none}
use Rattle.std.specs.Int.Signed.{lt_z, le_z}
use Rattle.formula.specs.Pick.{pick}
use Rattle.formula.specs.Codes as C
use Rattle.formula.specs.Codes.{Con, Rel, Fun, Many}
use Rattle.meaning.specs.Defined.{◌>>=◌, each, concat_map, unary, binary}
use Rattle.meaning.specs.Value.{Val, truth, int, boo, set, nats, nats1, pair, as_truth, as_int, as_boo, as_set, as_pair, as_data}
use Rattle.meaning.specs.Sets.{eq_z, member, subset, strict, same_set, filter, in_all}

-- ⊤ ⊥ ∅ ℕ ℕ1 TRUE FALSE
abbrev pub constant : Con → Val
constant C.top = truth true
constant C.bot = truth false
constant C.empty = set []
constant C.nat = nats
constant C.nat1 = nats1
constant C.tru = boo true
constant C.fls = boo false

-- literal of eight bytes, two's complement
abbrev pub signed : ℕ → ℤ
signed w = pick (ltb w (2 ^ 63)) (pos w) (pos w -ℤ pos (2 ^ 64))

-- ---- relations
-- two values of one type: whole numbers, truth values, sets by contents, pairs half by half
unfoldable pub equal : Val → Val → Option Bool
equal (truth b) w = none
equal (int z) w = as_int w >>= λ y. some (eq_z z y)
equal (boo b) w = as_boo w >>= λ c. some (beq b c)
equal (set s) w = as_set w >>= λ t. some (same_set s t)
equal nats w = none
equal nats1 w = none
equal (pair v₁ v₂) w = as_pair w >>= λ p. equal v₁ p.0 >>= λ b. equal v₂ p.1 >>= λ c. some (b && c)

-- x ∈ a set, ℕ (0 ≤ x) or ℕ1 (0 < x)
abbrev pub member_of : ℤ → Val → Option Bool
member_of x w =
    elim w [ truth b ↦ none | int z ↦ none | boo b ↦ none | set s ↦ some (member x s) | nats ↦ some (le_z (pos 0) x) | nats1 ↦ some (lt_z (pos 0) x) | pair a b ↦ none ]

abbrev pub on_ints : (ℤ → ℤ → Bool) → List Val → Option Val
on_ints f vs = each as_int vs >>= binary (λ x y. some (truth (f x y)))

abbrev pub on_sets : (List ℤ → List ℤ → Bool) → List Val → Option Val
on_sets f vs = each as_set vs >>= binary (λ s t. some (truth (f s t)))

-- = < ≤ > ≥ ∈ ⊂ ⊆
abbrev pub relation : Rel → List Val → Option Val
relation C.eq vs = binary (λ v w. equal v w >>= λ b. some (truth b)) vs
relation C.lt vs = on_ints lt_z vs
relation C.le vs = on_ints le_z vs
relation C.gt vs = on_ints (λ x y. lt_z y x) vs
relation C.ge vs = on_ints (λ x y. le_z y x) vs
relation C.mem vs = binary (λ v w. as_int v >>= λ x. member_of x w >>= λ b. some (truth b)) vs
relation C.sub vs = on_sets strict vs
relation C.sube vs = on_sets subset vs

-- ---- ¬ ⇒ ⇔, minus, unary minus, set difference, bool(p), ↦
abbrev pub function : Fun → List Val → Option Val
function C.neg vs = each as_truth vs >>= unary (λ a. some (truth (not a)))
function C.imp vs = each as_truth vs >>= binary (λ a b. some (truth (not a || b)))
function C.iff vs = each as_truth vs >>= binary (λ a b. some (truth (beq a b)))
function C.minus vs = each as_int vs >>= binary (λ x y. some (int (x -ℤ y)))
function C.uminus vs = each as_int vs >>= unary (λ x. some (int (neg_ℤ x)))
function C.diff vs = each as_set vs >>= binary (λ s t. some (set (filter (λ z. not (member z t)) s)))
function C.bool vs = each as_truth vs >>= unary (λ a. some (boo a))
function C.mapsto vs = each as_data vs >>= binary (λ v w. some (pair v w))

-- ---- ∧ ∨ + × ∪ ∩ and extension, for every count of operands
abbrev pub all_true : List Bool → Bool
all_true [] = true
all_true (b ∷ bs) = b && all_true bs

abbrev pub some_true : List Bool → Bool
some_true [] = false
some_true (b ∷ bs) = b || some_true bs

abbrev pub sum : List ℤ → ℤ
sum [] = pos 0
sum (z ∷ zs) = z +ℤ sum zs

abbrev pub product : List ℤ → ℤ
product [] = pos 1
product (z ∷ zs) = z *ℤ product zs

-- the members of any; the members of the first that are in all others (an ∩ of no sets has no value)
abbrev pub unions : List (List ℤ) → List ℤ
unions ss = concat_map (λ s. s) ss

abbrev pub inters : List (List ℤ) → Option Val
inters [] = none
inters (s ∷ ss) = some (set (filter (λ z. in_all z ss) s))

abbrev pub several : Many → List Val → Option Val
several C.and vs = each as_truth vs >>= λ bs. some (truth (all_true bs))
several C.or vs = each as_truth vs >>= λ bs. some (truth (some_true bs))
several C.add vs = each as_int vs >>= λ zs. some (int (sum zs))
several C.mul vs = each as_int vs >>= λ zs. some (int (product zs))
several C.union vs = each as_set vs >>= λ ss. some (set (unions ss))
several C.inter vs = each as_set vs >>= inters
several C.ext vs = each as_int vs >>= λ zs. some (set zs)
