-- A relational source on bytes: its sides, the conditions it meets and its shape are those of the tree.
use Prim.Native.Nat.{ℕ, ◌+◌, ◌-◌, ◌≤◌}
use mathlib.Core.Path.{◌≡◌, refl, sym, ap, ◌∙◌, subst}
use mathlib.Core.Bool.{Bool, true, false}
use mathlib.Core.Option.{some}
use mathlib.Core.List.{List, [], ◌++◌, append-nil, append_assoc}
use native.Mathlib.Omega.{arith}
use lib.ListN.{length, drop, length-append}
use lib.Dec.{eqb}
use Rattle.formula.specs.Pick.{pick}
use Rattle.formula.specs.Codes.{Rel, eq, lt, le, gt, ge, mem, sub, sube, Code, con, nat, nat1, lit, rel, rel_byte, byte_of}
use Rattle.formula.specs.Types as T
use Rattle.formula.specs.Types.{Ty, base, pair, prop, int, boo, set, nats, nats1, kind_of, types_of}
use Rattle.formula.specs.NodeTable.{row_of, rel_row, nothing, sort_of_kinds, sort_of_rest, operands}
use Rattle.formula.specs.Tree.{Tree, node, nil, ◌▹◌, encode}
use Rattle.formula.specs.Formed.{Formed}
use Rattle.formula.specs.Typing.{type_of}
use Rattle.formula.specs.Mirror.PackedTable.{bit}
use Rattle.formula.specs.Mirror.Bytes.{byte_at, type_at, skip_end}
use Rattle.formula.specs.declared.Sort.{Sort}
use Rattle.formula.specs.declared.Sort.TheVariants as sort
use Rattle.formula.proofs.Places.{behind}
use Rattle.formula.proofs.Typed.{typed_right}
use Rattle.formula.proofs.HeadIs.{type_there}
use Rattle.keys.specs.Strip.{has_code}
use Rattle.keys.specs.Keys.{in_set, inℕ, inℕ1, Condition, always, integers, sets, zero_left, zero_right, positive, negative}
use Rattle.keys.specs.Substitutes.{turned, word_of, meets}
use Rattle.keys.specs.Mirror.PackedKeys.{condition_number}
use Rattle.keys.specs.Mirror.Constants.{part}
use Rattle.keys.specs.Mirror.RowTests.{condition_by, meets_by}
use Rattle.keys.specs.declared.Part.{Part}
use Rattle.variations.specs.Mirror.SourceBytes.{turned_round, sides_by, sides_at, literal_at, facts_at, shape_is, member_shape, shape_of}
use Rattle.keys.specs.declared.rows.Sides.{Sides}
use Rattle.variations.specs.declared.sources.Shape.TheVariants as shape
use Rattle.keys.proofs.Standing.{There, first_byte, there_stands, there_skip, plain_long, operands_there}
use Rattle.keys.proofs.SideTypes.{rel_plain, rel_inner, typed_sides}
use Rattle.variations.proofs.LiteralIs.{literal_kind, literal_is, zero_is, positive_is, negative_is}

pub rel_two : (q : Rel) (n : ℕ) → operands (rel_row q).arity n ≡ 2
rel_two eq n = refl
rel_two lt n = refl
rel_two le n = refl
rel_two gt n = refl
rel_two ge n = refl
rel_two mem n = refl
rel_two sub n = refl
rel_two sube n = refl

rel_sorts : (q : Rel) → (sort_of_kinds (rel_row q).first ≡ sort.Expression) × (sort_of_rest (rel_row q).rest ≡ sort.Expression)
rel_sorts = elim [ eq ↦ (refl, refl) | lt ↦ (refl, refl) | le ↦ (refl, refl) | gt ↦ (refl, refl) | ge ↦ (refl, refl) | mem ↦ (refl, refl) | sub ↦ (refl, refl) | sube ↦ (refl, refl) ]

-- ---- an expression that stands in s
pub record Side (s types : List ℕ) (p : ℕ) (x : Tree) : Type 0 where
  pub there : There s p x
  pub level : ℕ
  pub formed : Formed level (length types) 0 sort.Expression x
  pub type : Ty
  pub typed : type_of (types_of types) 0 x ≡ some type

module _ (s types : List ℕ) (p : ℕ) where
  side_type : (x : Tree) (S : Side s types p x) → type_at s types p ≡ bit (kind_of S.type)
  side_type x S =
      type_there s types x S.level p (p + length (encode x)) S.type (there_stands s p x S.there S.level (length types) 0 sort.Expression S.formed)
      (typed_right x (types_of types) 0 0 S.type S.typed).1

  side_code : (x : Tree) → Side s types p x → (j : Code) → eqb (byte_at s p) (byte_of j) ≡ has_code j x
  side_code (node k xs) S j = rw (first_byte s p k xs S.there) refl

expression : (n t : ℕ) (x : Tree) {d : ℕ} {σ : Sort} → d ≡ 0 → σ ≡ sort.Expression → Formed n t d σ x → Formed n t 0 sort.Expression x
expression n t x {d} {σ} e f F = subst (λ (d : ℕ). Formed n t d sort.Expression x) e (subst (λ (σ : Sort). Formed n t d σ x) f F)

-- ---- the two sides of a relation
pub record Sided (s types : List ℕ) (p e : ℕ) (l r : Tree) : Type 0 where
  pub mid : ℕ
  pub left : Side s types (p + 1) l
  pub right : Side s types mid r
  pub mid_is : mid ≡ p + 1 + length (encode l)
  pub end_is : e ≡ mid + length (encode r)

module _ (s types : List ℕ) (p e : ℕ) (q : Rel) (l r : Tree) (n : ℕ) (τ : Ty) (F : Formed n (length types) 0 sort.Predicate (node (rel q) (l ▹ r ▹ nil)))
    (T : There s p (node (rel q) (l ▹ r ▹ nil))) (ends : p + length (encode (node (rel q) (l ▹ r ▹ nil))) ≡ e) (t : type_of (types_of types) 0 (node (rel q) (l ▹ r ▹ nil)) ≡ some τ) where
  pub sided : Sided s types p e l r
  unfolding encode Formed type_of
  sided =
      let N : (row_of (rel q)).number ≡ nothing = rel_plain q in
      let w = plain_long (rel q) (l ▹ r ▹ nil) N in
      let v = length-append (encode l) (encode r ++ []) in
      let u = ap length (append-nil (encode r)) in
      let i = rel_inner q in
      let σ = rel_sorts q in
      let d : drop (p + 1) s ≡ encode l ++ (encode r ++ T.0) = operands_there (rel q) (l ▹ r ▹ nil) N s p T ∙ rw (append-nil (encode r)) (append_assoc (encode l) (encode r) T.0) in
      let y = typed_sides (types_of types) q l r τ t in
      record {
        mid = p + 1 + length (encode l);
        left = record {
          there = (encode r ++ T.0, d);
          level = n - 1;
          formed = expression (n - 1) (length types) l i σ.0 F.2.0;
          type = y.left_type;
          typed = y.left_is;
        };
        right = record {
          there = (T.0, behind s (p + 1) (encode l) (encode r ++ T.0) d);
          level = n - 1;
          formed = expression (n - 1) (length types) r i σ.1 F.2.1.0;
          type = y.right_type;
          typed = y.right_is;
        };
        mid_is = refl;
        end_is = omega (arith, w, v, u, ends);
      }

  pub sides_short : length (encode (node (rel q) (l ▹ r ▹ nil))) ≤ 1024 → length (encode l) ≤ 1024
  unfolding encode
  sides_short h =
      let w = plain_long (rel q) (l ▹ r ▹ nil) (rel_plain q) in
      let v = length-append (encode l) (encode r ++ []) in omega (arith, w, v)

-- ---- turned round
pub turned_left : (q : Rel) (l r : Tree) → (turned q l r).left ≡ pick (turned_round (rel_byte q)) r l
unfolding turned_round
turned_left eq l r = refl
turned_left lt l r = refl
turned_left le l r = refl
turned_left gt l r = refl
turned_left ge l r = refl
turned_left mem l r = refl
turned_left sub l r = refl
turned_left sube l r = refl

pub turned_right : (q : Rel) (l r : Tree) → (turned q l r).right ≡ pick (turned_round (rel_byte q)) l r
unfolding turned_round
turned_right eq l r = refl
turned_right lt l r = refl
turned_right le l r = refl
turned_right gt l r = refl
turned_right ge l r = refl
turned_right mem l r = refl
turned_right sub l r = refl
turned_right sube l r = refl

-- the part a is where x stands
pub record PartIs (s types : List ℕ) (a : Part) (x : Tree) : Type 0 where
  pub side : Side s types a.at x
  pub long : a.at + length (encode x) ≡ a.end

abbrev pub PartsAre : List ℕ → List ℕ → Sides → Tree → Tree → Type 0
PartsAre s types z l r = PartIs s types z.left l × PartIs s types z.right r

parts_by : (s types : List ℕ) (v : Bool) (a b : Part) (l r : Tree) → PartIs s types a l → PartIs s types b r → PartsAre s types (sides_by v a b) (pick v r l) (pick v l r)
parts_by s types true a b l r A B = (B, A)
parts_by s types false a b l r A B = (A, B)

module _ (s types : List ℕ) (p e : ℕ) (q : Rel) (l r : Tree) (c≡ : byte_at s p ≡ rel_byte q) (S : Sided s types p e l r) (short : length (encode l) ≤ 1024) where
  mid_found : skip_end s (p + 1) ≡ S.mid
  mid_found = there_skip s (p + 1) l S.left.there S.left.level (length types) 0 sort.Expression S.left.formed short ∙ sym S.mid_is

  pub parts_are : PartsAre s types (sides_at s (part p e)) (turned q l r).left (turned q l r).right
  unfolding sides_at
  parts_are =
      rw (mid_found, c≡, turned_left q l r, turned_right q l r)
      (parts_by s types (turned_round (rel_byte q)) (part (p + 1) S.mid) (part S.mid e) l r (record { side = S.left; long = sym S.mid_is }) (record { side = S.right; long = sym S.end_is }))

-- ---- the shape
member_law : (u v : Bool) → shape_is (pick u shape.InNat (pick v shape.InNat1 shape.InSet)) ≡ pick u inℕ (pick v inℕ1 in_set)
member_law true v = refl
member_law false true = refl
member_law false false = refl

pub shape_law : (s types : List ℕ) (q : Rel) (l r : Tree) (b : Part) → PartIs s types b (turned q l r).right → shape_is (shape_of (rel_byte q) (byte_at s b.at)) ≡ (turned q l r).shape
unfolding shape_of member_shape
shape_law s types eq l r b B = refl
shape_law s types lt l r b B = refl
shape_law s types le l r b B = refl
shape_law s types gt l r b B = refl
shape_law s types ge l r b B = refl
shape_law s types mem l r b B = rw (side_code s types b.at r B.side (con nat), side_code s types b.at r B.side (con nat1)) (member_law (has_code (con nat) r) (has_code (con nat1) r))
shape_law s types sub l r b B = refl
shape_law s types sube l r b B = refl

-- ---- the conditions
part_literal : (s types : List ℕ) (a : Part) (x : Tree) → PartIs s types a x → literal_at s a ≡ literal_kind (has_code (lit 0) x) (word_of x)
unfolding Formed
part_literal s types a (node k xs) P = literal_is s a k xs P.side.there P.long P.side.formed.1.operands_are P.side.formed.1.word_in

int_bit : (τ : Ty) → eqb (bit (kind_of τ)) 2 ≡ T.eq_ty (base int) τ
int_bit (base prop) = refl
int_bit (base int) = refl
int_bit (base boo) = refl
int_bit (base set) = refl
int_bit (base nats) = refl
int_bit (base nats1) = refl
int_bit (pair a b) = refl

set_bit : (τ : Ty) → eqb (bit (kind_of τ)) 8 ≡ T.eq_ty (base set) τ
set_bit (base prop) = refl
set_bit (base int) = refl
set_bit (base boo) = refl
set_bit (base set) = refl
set_bit (base nats) = refl
set_bit (base nats1) = refl
set_bit (pair a b) = refl

module _ (s types : List ℕ) (z : Sides) (l r : Tree) (P : PartsAre s types z l r) where
  left_literal : literal_at s z.left ≡ literal_kind (has_code (lit 0) l) (word_of l)
  left_literal = part_literal s types z.left l P.0

  right_literal : literal_at s z.right ≡ literal_kind (has_code (lit 0) r) (word_of r)
  right_literal = part_literal s types z.right r P.1

  right_type_law : type_at s types z.right.at ≡ bit (kind_of P.1.side.type)
  right_type_law = side_type s types z.right.at r P.1.side

  pub meets_is : (c : Condition) → meets_by (facts_at s types z) (condition_by (condition_number c)) ≡ meets (types_of types) l r c
  unfolding condition_by meets_by facts_at
  meets_is always = refl
  meets_is integers = rw (right_type_law, P.1.side.typed) (int_bit P.1.side.type)
  meets_is sets = rw (right_type_law, P.1.side.typed) (set_bit P.1.side.type)
  meets_is zero_left = rw left_literal (zero_is (has_code (lit 0) l) (word_of l))
  meets_is zero_right = rw right_literal (zero_is (has_code (lit 0) r) (word_of r))
  meets_is positive = rw left_literal (positive_is (has_code (lit 0) l) (word_of l))
  meets_is negative = rw left_literal (negative_is (has_code (lit 0) l) (word_of l))
