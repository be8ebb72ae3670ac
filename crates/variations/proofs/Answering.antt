-- THE LAWS of the public functions: a source answers, position by position, what its entries say.
use Prim.Native.Nat.{ℕ, zero, suc, ◌+◌, ◌≤◌}
use mathlib.Core.Path.{◌≡◌, refl, sym, ap, ◌∙◌, subst}
use mathlib.Core.Bool.{Bool, true, false}
use mathlib.Core.Option.{Option, some, none}
use mathlib.Core.List.{List, [], ◌∷◌, map}
use native.Mathlib.Nat.{add-zero, zero-add}
use native.Mathlib.Omega.{arith}
use lib.ListN.{length, length-map}
use Rattle.std.specs.Prelude.{Some, None}
use Rattle.formula.specs.Pick.{pick, at}
use Rattle.formula.specs.Codes as C
use Rattle.formula.specs.Codes.{Rel, Code, con, ident, bound, lit, rel, fun, many, qu, rel_byte, byte_of}
use Rattle.formula.specs.Types.{Ty, types_of}
use Rattle.formula.specs.Tree.{Tree, node, Trees, nil, ◌▹◌, encode}
use Rattle.formula.specs.Formed.{Formed}
use Rattle.formula.specs.Formula.{Formula}
use Rattle.formula.specs.Typing.{type_of}
use Rattle.formula.specs.Equal.{same}
use Rattle.formula.specs.Equal.{Range}
use Rattle.formula.specs.Mirror.Bytes.{byte_at, skip_end}
use Rattle.formula.specs.declared.Sort.TheVariants as sort
use Rattle.keys.specs.Strip.{strip}
use Rattle.keys.specs.Keys.{rows_of}
use Rattle.keys.specs.Substitutes.{turned, relation, Entry, entry_of, literal?, entries_by, candidates, met_entries, substitutes}
use Rattle.keys.specs.Mirror.Stripping.{strip_from, strip_at}
use Rattle.keys.specs.Mirror.PackedKeys.{itself_number, nothing_number}
use Rattle.keys.specs.Mirror.Constants.{part}
use Rattle.variations.specs.Answers.{Answer, answer, first_for, or_next, first_yes, code_byte, AskedOf, AskedIs}
use Rattle.variations.specs.Mirror.SourceBytes.{sides_at, facts_at, relational, lone_number, no_facts, source_with, related_by, lone_by, source_by, source_at, key_is, asked_at, first_from, first_key}
use Rattle.variations.specs.Mirror.Positions.{SourceIs, KeyIs, FirstIs}
use Rattle.keys.specs.declared.rows.Sides.{Sides}
use Rattle.keys.specs.declared.facts.Facts.{Facts}
use Rattle.keys.specs.declared.Part.{Part}
use Rattle.keys.specs.declared.rows.Source.{Source}
use Rattle.keys.specs.declared.rows.Asked.{Asked}
use Rattle.keys.proofs.TableIs.{group_of, count_is, lone_count, literal_count}
use Rattle.keys.proofs.RowIs.{AskedBytes}
use Rattle.keys.proofs.Standing.{There, some_bytes, first_byte, there_bytes, there_skip, range_there, range_ends, range_bytes}
use Rattle.keys.proofs.StripIs.{strip_is}
use Rattle.variations.proofs.SourceIs.{rel_two, Sided, sided, sides_short, PartsAre, parts_are, shape_law, meets_is}
use Rattle.variations.proofs.KeyAnswers.{relation_answers, lone_answers, none_answers}

-- a source says, of any predicate and at any position, what these entries say
record Says (s : List ℕ) (x : Source) (es : List (Option Entry)) : Type 0 where
  count_is : x.count ≡ length es
  says : (k : ℕ) (t : List ℕ) (y : Asked) (w : Tree) → AskedBytes t y (encode w) → key_is s x k t y ≡ answer (at es k) w

-- ---- relations
rel_related : (q : Rel) → relational (rel_byte q) ≡ true
unfolding relational
rel_related = elim [ C.eq ↦ refl | C.lt ↦ refl | C.le ↦ refl | C.gt ↦ refl | C.ge ↦ refl | C.mem ↦ refl | C.sub ↦ refl | C.sube ↦ refl ]

module _ (s types : List ℕ) (p e : ℕ) (b : Bool) (q : Rel) (l r : Tree) (c≡ : byte_at s p ≡ rel_byte q) (S : Sided s types p e l r) (short : length (encode l) ≤ 1024) where
  source : Source
  source = source_with (group_of b (turned q l r).shape) (part p e) (sides_at s (part p e)) (facts_at s types (sides_at s (part p e)))

  parts : PartsAre s types (sides_at s (part p e)) (turned q l r).left (turned q l r).right
  parts = parts_are s types p e q l r c≡ S short

  source_is : source ≡ source_by s types (part p e) b
  unfolding source_by related_by source
  source_is = rw (c≡, rel_related q, shape_law s types q l r (sides_at s (part p e)).right parts.1) refl

  source_says : Says s source (map (entry_of (types_of types) (turned q l r)) (rows_of b (turned q l r).shape))
  unfolding source_with source
  source_says = record {
    count_is = count_is b (turned q l r).shape ∙ sym (length-map (rows_of b (turned q l r).shape) (entry_of (types_of types) (turned q l r)));
    says = λ k t y w Y. relation_answers s types source (turned q l r) parts.0 parts.1 (meets_is s types (sides_at s (part p e)) (turned q l r).left (turned q l r).right parts) t y w Y b refl (count_is b (turned q l r).shape) k;
  }

-- ---- any other predicate
-- no other code is a relation's
con_unrelated : (c : C.Con) → relational (byte_of (con c)) ≡ false
unfolding relational
con_unrelated = elim [ C.top ↦ refl | C.bot ↦ refl | C.empty ↦ refl | C.nat ↦ refl | C.nat1 ↦ refl | C.tru ↦ refl | C.fls ↦ refl ]

fun_unrelated : (f : C.Fun) → relational (byte_of (fun f)) ≡ false
unfolding relational
fun_unrelated = elim [ C.neg ↦ refl | C.imp ↦ refl | C.iff ↦ refl | C.minus ↦ refl | C.uminus ↦ refl | C.diff ↦ refl | C.bool ↦ refl | C.mapsto ↦ refl ]

many_unrelated : (m : C.Many) → relational (byte_of (many m)) ≡ false
unfolding relational
many_unrelated = elim [ C.and ↦ refl | C.or ↦ refl | C.add ↦ refl | C.mul ↦ refl | C.union ↦ refl | C.inter ↦ refl | C.ext ↦ refl ]

bind_unrelated : (v : C.Bind) (k : ℕ) → relational (byte_of (qu v k)) ≡ false
unfolding relational
bind_unrelated C.all k = refl
bind_unrelated C.ex k = refl
bind_unrelated C.compr k = refl

lone_says : (s : List ℕ) (p e : ℕ) (b : Bool) (x : Tree) → There s p x → p + length (encode x) ≡ e → (z : Sides) (f : Facts) (u : Bool)
    → Says s (source_with (pick u nothing_number (itself_number b)) (part p e) z f) (pick u [] (some (record { key = x; value = b }) ∷ []))
unfolding source_with
lone_says s p e b x T i z f true = record { count_is = literal_count; says = λ k t y w Y. none_answers s (source_with nothing_number (part p e) z f) t y w literal_count k }
lone_says s p e b x T i z f false = record {
  count_is = lone_count b;
  says = λ k t y w Y. lone_answers s (source_with (itself_number b) (part p e) z f) x (rw (← i) (there_bytes s p x T)) t y w Y b refl (lone_count b) k;
}

module _ (s types : List ℕ) (p e : ℕ) (b : Bool) where
  lone_by_law : (k : Code) (xs : Trees) → There s p (node k xs) → p + length (encode (node k xs)) ≡ e → relational (byte_of k) ≡ false
      → Says s (source_by s types (part p e) b) (pick (literal? (node k xs)) [] (some (record { key = node k xs; value = b }) ∷ []))
  unfolding source_by lone_by lone_number
  lone_by_law k xs T i h = rw (first_byte s p k xs T, h) (lone_says s p e b (node k xs) T i (record { left = part 0 0; right = part 0 0 }) no_facts (literal? (node k xs)))

  -- ---- every predicate
  source_says_all : (x : Tree) (n : ℕ) (τ : Ty) → There s p x → p + length (encode x) ≡ e → length (encode x) ≤ 1024 → Formed n (length types) 0 sort.Predicate x
      → type_of (types_of types) 0 x ≡ some τ → Says s (source_by s types (part p e) b) (entries_by (types_of types) b x (relation x))
  unfolding relational Formed
  source_says_all (node (con c) xs) n τ T i h F t = lone_by_law (con c) xs T i (con_unrelated c)
  source_says_all (node (ident k) xs) n τ T i h F t = lone_by_law (ident k) xs T i refl
  source_says_all (node (bound k) xs) n τ T i h F t = lone_by_law (bound k) xs T i refl
  source_says_all (node (lit w) xs) n τ T i h F t = lone_by_law (lit w) xs T i refl
  source_says_all (node (rel q) nil) n τ T i h F t = absurd (let o = F.1.operands_are ∙ rel_two q 0 in omega (arith, o))
  source_says_all (node (rel q) (l ▹ nil)) n τ T i h F t = absurd (let o = F.1.operands_are ∙ rel_two q 0 in omega (arith, o))
  source_says_all (node (rel q) (l ▹ r ▹ nil)) n τ T i h F t =
      let c = first_byte s p (rel q) (l ▹ r ▹ nil) T in
      let S = sided s types p e q l r n τ F T i t in
      let k = sides_short s types p e q l r n τ F T i t h in
      subst (λ (x : Source). Says s x (map (entry_of (types_of types) (turned q l r)) (rows_of b (turned q l r).shape))) (source_is s types p e b q l r c S k) (source_says s types p e b q l r c S k)
  source_says_all (node (rel q) (l ▹ r ▹ x ▹ xs)) n τ T i h F t = absurd (let o = F.1.operands_are ∙ rel_two q 0 in omega (arith, o))
  source_says_all (node (fun f) xs) n τ T i h F t = lone_by_law (fun f) xs T i (fun_unrelated f)
  source_says_all (node (many m) xs) n τ T i h F t = lone_by_law (many m) xs T i (many_unrelated m)
  source_says_all (node (qu v k) xs) n τ T i h F t = lone_by_law (qu v k) xs T i (bind_unrelated v k)

-- ---- with its ¬ stripped
made_says : (s types : List ℕ) (w : Part) (starts : Bool) (x : Tree) → Formula types sort.Predicate x → Range s w.at w.end x → Says s (source_at s types w starts) (candidates types starts x)
unfolding source_at strip_at candidates
made_says s types w starts x F R =
    let T = range_there s w.at w.end x R in
    let B = strip_is s types x 32 32 w.at starts F.type (omega arith) F.short F.formed T F.typed in
    let z = strip starts x in
    let p = (strip_from 32 s w.at starts).at in
    let S = source_says_all s types p w.end z.value z.predicate 32 B.type B.there (B.ends ∙ range_ends s w.at w.end x R) B.short B.formed B.typed in
    subst (λ (v : Bool). Says s (source_by s types (part p w.end) v) (entries_by (types_of types) z.value z.predicate (relation z.predicate))) (sym B.value_is) S

pub source_law : (s types : List ℕ) (w : Part) (starts : Bool) (r : Source) → r ≡ source_at s types w starts → SourceIs s types w starts r
source_law s types w starts r e x F R =
    record { place = w; accepted = F; stands = R; made = e; count_is = ap (λ (r : Source). r.count) e ∙ (made_says s types w starts x F R).count_is }

-- ---- the predicate asked
code_there : (t : List ℕ) (p : ℕ) (y : Tree) → There t p y → byte_at t p ≡ code_byte y
code_there t p (node k xs) T = first_byte t p k xs T

pub asked_law : (t : List ℕ) (from : ℕ) (r : Asked) → r ≡ asked_at t from → AskedIs t from r
unfolding asked_at
asked_law t from r e l n d end y F h R =
    let T = range_there t from end y R in
    let k : skip_end t from ≡ end = there_skip t from y T l n d sort.Predicate F h ∙ range_ends t from end y R in
    (ap (λ (r : Asked). r.whole.at) e, record { code_is = ap (λ (r : Asked). r.code) e ∙ code_there t from y T; stands = rw (e, k) R })

asked_bytes : (t : List ℕ) (w : Tree) (y : Asked) → AskedOf t w y → AskedBytes t y (encode w)
unfolding byte_at
asked_bytes t w y A =
    let R = A.stands in
    record {
      there = range_bytes t y.whole.at y.whole.end w R;
      some_byte = some_bytes w;
      code_is = A.code_is ∙ sym (code_there t y.whole.at w (range_there t y.whole.at y.whole.end w R));
    }

pub key_law : (s : List ℕ) (x : Source) (k : ℕ) (t : List ℕ) (y : Asked) (r : Answer) → r ≡ key_is s x k t y → KeyIs s x k t y r
key_law s x k t y r e types starts z w S A =
    e ∙ ap (λ (x : Source). key_is s x k t y) S.made ∙ (made_says s types S.place starts z S.accepted S.stands).says k t y w (asked_bytes t w y A)

-- ---- the first position that says Yes is the first entry
one_on : (j k : ℕ) → j + 1 + k ≡ j + suc k
one_on j k = omega arith

first_entry : (es : List (Option Entry)) (w : Tree) (f : ℕ → Answer) (j : ℕ) → ((k : ℕ) → f (j + k) ≡ answer (at es k) w) → first_yes f (length es) j ≡ first_for (met_entries es) w
unfolding first_yes first_for
first_entry [] w f j h = refl
first_entry (none ∷ es) w f j h =
    let z : f j ≡ None = ap f (sym (add-zero j)) ∙ h 0 in
    rw z (first_entry es w f (j + 1) (λ k. ap f (one_on j k) ∙ h (suc k)))
first_entry (some e ∷ es) w f j h =
    let z : f j ≡ pick (same e.key w) (Some e.value) None = ap f (sym (add-zero j)) ∙ h 0 in
    rw (z, first_entry es w f (j + 1) (λ k. ap f (one_on j k) ∙ h (suc k))) (go (same e.key w))
  where
    go : (b : Bool) → or_next (pick b (Some e.value) None) (first_for (met_entries es) w) ≡ pick b (Some e.value) (first_for (met_entries es) w)
    go true = refl
    go false = refl

-- THE THEOREM: of answers to all positions the first that says Yes is that of the first entry for the predicate, and none says Yes if there is none
pub first_position : (types : List ℕ) (starts : Bool) (x w : Tree) (f : ℕ → Answer) → ((k : ℕ) → f k ≡ answer (at (candidates types starts x) k) w)
    → first_yes f (length (candidates types starts x)) 0 ≡ first_for (substitutes types starts x) w
unfolding substitutes
first_position types starts x w f h = first_entry (candidates types starts x) w f 0 (λ k. ap f (zero-add k) ∙ h k)

walked : (s : List ℕ) (x : Source) (t : List ℕ) (y : Asked) (n k : ℕ) → first_from s x t y n k ≡ first_yes (λ k. key_is s x k t y) n k
unfolding first_from first_yes
walked s x t y zero k = refl
walked s x t y (suc n) k = ap (or_next (key_is s x k t y)) (walked s x t y n (k + 1))

pub first_law : (s : List ℕ) (r : Source) (t : List ℕ) (y : Asked) (z : Answer) → z ≡ first_key s r t y → FirstIs s r t y z
unfolding first_key
first_law s r t y z e types starts x w S A =
    e ∙ walked s r t y r.count 0 ∙ ap (λ (n : ℕ). first_yes (λ k. key_is s r k t y) n 0) S.count_is
    ∙ first_position types starts x w (λ k. key_is s r k t y) (λ k. key_law s r k t y (key_is s r k t y) refl types starts x w S A)

-- THE THEOREM: a source made, a predicate taken and the first key asked together answer the source's first entry for the predicate
pub look_up : (s types : List ℕ) (w : Part) (starts : Bool) (t : List ℕ) (from : ℕ) (x : Tree) → Formula types sort.Predicate x → Range s w.at w.end x → (l n d stop : ℕ) (y : Tree)
    → Formed l n d sort.Predicate y → length (encode y) ≤ 1024 → Range t from stop y → first_key s (source_at s types w starts) t (asked_at t from) ≡ first_for (substitutes types starts x) y
look_up s types w starts t from x F R l n d stop y G h Q =
    first_law s (source_at s types w starts) t (asked_at t from) (first_key s (source_at s types w starts) t (asked_at t from)) refl types starts x y
    (source_law s types w starts (source_at s types w starts) refl x F R) (asked_law t from (asked_at t from) refl l n d stop y G h Q).1
