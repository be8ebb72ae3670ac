-- The laws of ∀, ∃ and comprehension: all choices of n integers of lo..hi, the last declared the innermost.
use Prim.Native.Nat.{ℕ, zero, suc, ◌+◌}
use mathlib.Core.Path.{◌≡◌, refl, ap, ap₂, sym, ◌∙◌, subst}
use mathlib.Core.List.Memᴰ
use mathlib.Core.List.{List, [], ◌∷◌, ◌++◌, reverse, reverse_aux, reverse_aux-eq}
use mathlib.Core.Bool.{Bool, true}
use mathlib.Core.Option.{Option, some}
use mathlib.Core.Logic.{◌↔◌}
use native.Mathlib.Nat.{zero-add, suc-add}
use native.Mathlib.Omega.{arith}
use lib.ListN.{length, length-append, length-reverse}
use lib.IntN.{ℤ}
use lib.Signed.{le_z}
use Rattle.formula.specs.Codes.{bound, qu, all, ex, compr}
use Rattle.formula.specs.Types as T
use Rattle.formula.specs.Types.{base, types_of}
use Rattle.formula.specs.Tree.{Tree, node, nil, ◌▹◌}
use Rattle.formula.specs.Typing.{type_of}
use Rattle.meaning.specs.Defined.{◌>>=◌, nth, each}
use Rattle.meaning.specs.Value.{Val, truth, int, set, as_truth, as_int}
use Rattle.meaning.specs.Sets.{member}
use Rattle.meaning.specs.Operators.{all_true, some_true}
use Rattle.meaning.specs.Fold.{fold}
use Rattle.meaning.specs.Valuation.{interval, Valuation}
use Rattle.meaning.specs.Meaning.{Sense, choices, truth_at, int_at, guarded, collect, eval}
use Rattle.meaning.proofs.Lists.{All, all_map, some_inj, step_inv, each_some}
use Rattle.meaning.proofs.Operands.{is_truth, is_int}
use Rattle.meaning.proofs.Members.{In, member_in, in_member, concat_in, in_concat, each_in, each_from, in_each, all_in, in_all, some_in, in_some, collect_in, in_collect}
use Rattle.meaning.proofs.Interval.{interval_in, in_interval}
use Rattle.meaning.proofs.Truths.{truth_of}

-- ---- the choices: n integers of the interval, put before ρ one after another in the order of declaration
choices_in : (I : List ℤ) (n : ℕ) (ρ σ : List ℤ) → In σ (choices I n ρ) → (zs : List ℤ) × (length zs ≡ n) × All (λ z. In z I) zs × (σ ≡ reverse_aux zs ρ)
choices_in I zero ρ σ m = ([], refl, tt, Memᴰ.eq_of_singleton m)
choices_in I (suc n) ρ σ m =
    let c = concat_in (λ z. choices I n (z ∷ ρ)) I m in
    let r = choices_in I n (c.0 ∷ ρ) σ c.2 in
    (c.0 ∷ r.0, ap suc r.1, (c.1, r.2), r.3)

in_choices : (I : List ℤ) (n : ℕ) (ρ zs : List ℤ) → length zs ≡ n → All (λ z. In z I) zs → In (reverse_aux zs ρ) (choices I n ρ)
in_choices I zero ρ [] l a = Memᴰ.head refl
in_choices I zero ρ (z ∷ zs) l a = absurd (omega arith)
in_choices I (suc n) ρ [] l a = absurd (omega arith)
in_choices I (suc n) ρ (z ∷ zs) l a = in_concat (λ z. choices I n (z ∷ ρ)) I a.0 (in_choices I n (z ∷ ρ) zs (omega arith) a.1)

-- ---- a value read
truth_read : (o : Option Val) (b : Bool) → (o >>= as_truth) ≡ some b → o ≡ some (truth b)
truth_read o b e = let i = step_inv o e in i.1 ∙ ap some (sym (is_truth i.0 b i.2))

int_read : (o : Option Val) (z : ℤ) → (o >>= as_int) ≡ some z → o ≡ some (int z)
int_read o z e = let i = step_inv o e in i.1 ∙ ap some (sym (is_int i.0 z i.2))

nth_past : (a ρ : List ℤ) (i : ℕ) → nth (a ++ ρ) (length a + i) ≡ nth ρ i
nth_past [] ρ i = ap (nth ρ) (zero-add i)
nth_past (z ∷ a) ρ i = ap (nth (z ∷ (a ++ ρ))) (suc-add (length a) i) ∙ nth_past a ρ i

module _ {types : List ℕ} (ν : Valuation types) where
  -- lo ≤ z ≤ hi for each
  abbrev pub Within : List ℤ → Type 0
  Within zs = All (λ z. (le_z ν.lo z ≡ true) × (le_z z ν.hi ≡ true)) zs

  -- n values for the variables of a block, in the order of their declaration
  pub record Block (n : ℕ) (zs : List ℤ) : Type 0 where
    pub as_many : length zs ≡ n
    pub within : Within zs

  abbrev I : List ℤ
  I = interval ν.lo ν.hi

  block_choice : (n : ℕ) (ρ zs : List ℤ) → Block n zs → In (reverse zs ++ ρ) (choices I n ρ)
  block_choice n ρ zs b =
      subst (λ (σ : List ℤ). In σ (choices I n ρ)) (reverse_aux-eq zs ρ)
      (in_choices I n ρ zs b.as_many (all_map zs (λ z p. in_interval ν.lo ν.hi ν.ordered z p.0 p.1) b.within))

  choice_block : (n : ℕ) (ρ σ : List ℤ) → In σ (choices I n ρ) → (zs : List ℤ) × Block n zs × (σ ≡ reverse zs ++ ρ)
  choice_block n ρ σ m =
      let c = choices_in I n ρ σ m in
      (c.0, record { as_many = c.1; within = all_map c.0 (λ z q. interval_in ν.lo ν.hi ν.ordered z q) c.2 }, c.3 ∙ reverse_aux-eq c.0 ρ)

  -- bound 0 is the last declared, ..
  pub innermost : (zs : List ℤ) (z : ℤ) (ρ : List ℤ) → eval ν (node (bound 0) nil) (reverse (zs ++ (z ∷ [])) ++ ρ) ≡ some (int z)
  unfolding fold
  innermost zs z ρ = rw (← reverse_aux-eq (zs ++ (z ∷ [])) ρ) (go zs ρ)
    where
      go : (zs ρ : List ℤ) → (nth (reverse_aux (zs ++ (z ∷ [])) ρ) 0 >>= λ z. some (int z)) ≡ some (int z)
      go [] ρ = refl
      go (y ∷ zs) ρ = go zs (y ∷ ρ)

  -- .. and what was bound outside comes after the whole block
  pub outer : (zs ρ : List ℤ) (i : ℕ) → eval ν (node (bound (length zs + i)) nil) (reverse zs ++ ρ) ≡ eval ν (node (bound i) nil) ρ
  unfolding fold
  outer zs ρ i = ap (λ o. o >>= λ z. some (int z)) (ap (λ (k : ℕ). nth (reverse zs ++ ρ) (k + i)) (sym (length-reverse zs)) ∙ nth_past (reverse zs) ρ i)

  module _ (n : ℕ) (ρ : List ℤ) where
    -- a choice of the block, put before ρ
    abbrev At : List ℤ → List ℤ
    At zs = reverse zs ++ ρ

    -- the truth values of p at all choices are those at the blocks
    truth_there : (p : Sense) (bs : List Bool) → each (truth_at p) (choices I n ρ) ≡ some bs → (zs : List ℤ) → Block n zs → (b : Bool) × (p (At zs) ≡ some (truth b)) × In b bs
    truth_there p bs e zs k = let r = each_in (truth_at p) (choices I n ρ) bs e (block_choice n ρ zs k) in (r.0, truth_read (p (At zs)) r.0 r.1, r.2)

    truth_back : (p : Sense) (bs : List Bool) → each (truth_at p) (choices I n ρ) ≡ some bs → {b : Bool} → In b bs → (zs : List ℤ) × Block n zs × (p (At zs) ≡ some (truth b))
    truth_back p bs e {b} m =
        let r = each_from (truth_at p) (choices I n ρ) bs e m in
        let c = choice_block n ρ r.0 r.1 in
        (c.0, c.1, subst (λ (σ : List ℤ). p σ ≡ some (truth b)) c.2 (truth_read (p r.0) b r.2))

    all_truths : (p : Sense) → ((zs : List ℤ) → Block n zs → (b : Bool) × (p (At zs) ≡ some (truth b))) → (bs : List Bool) × (each (truth_at p) (choices I n ρ) ≡ some bs)
    all_truths p h = let k = each_some (truth_at p) (choices I n ρ) (in_each (truth_at p) (choices I n ρ) at) in (k.0, k.1)
      where
        at : (σ : List ℤ) → In σ (choices I n ρ) → (b : Bool) × (truth_at p σ ≡ some b)
        at σ m =
            let c = choice_block n ρ σ m in
            let t = h c.0 c.1 in
            (t.0, ap (truth_at p) c.2 ∙ ap (λ o. o >>= as_truth) t.1)

    forall_there : (p : Sense) → (each (truth_at p) (choices I n ρ) >>= λ bs. some (truth (all_true bs))) ≡ some (truth true) → (zs : List ℤ) → Block n zs → p (At zs) ≡ some (truth true)
    forall_there p e zs k =
        let i = step_inv (each (truth_at p) (choices I n ρ)) e in
        let r = truth_there p i.0 i.1 zs k in
        let h = i.2 in
        let t : all_true i.0 ≡ true = cc in
        r.1 ∙ ap (λ b. some (truth b)) (all_in i.0 t r.2)

    forall_back : (p : Sense) → ((zs : List ℤ) → Block n zs → p (At zs) ≡ some (truth true)) → (each (truth_at p) (choices I n ρ) >>= λ bs. some (truth (all_true bs))) ≡ some (truth true)
    forall_back p h =
        let k = all_truths p (λ zs b. (true, h zs b)) in
        let t : all_true k.0 ≡ true = in_all k.0 (λ b m. let r = truth_back p k.0 k.1 m in truth_inj (sym r.2 ∙ h r.0 r.1)) in
        rw (k.1, t)
      where
        truth_inj : {a b : Bool} → some (truth a) ≡ some (truth b) → a ≡ b
        truth_inj e = cc

    exists_there : (p : Sense) → (each (truth_at p) (choices I n ρ) >>= λ bs. some (truth (some_true bs))) ≡ some (truth true) → (zs : List ℤ) × Block n zs × (p (At zs) ≡ some (truth true))
    exists_there p e =
        let i = step_inv (each (truth_at p) (choices I n ρ)) e in
        let h = i.2 in
        let t : some_true i.0 ≡ true = cc in
        truth_back p i.0 i.1 (some_in i.0 t)

    exists_back : (p : Sense) → ((zs : List ℤ) → Block n zs → (b : Bool) × (p (At zs) ≡ some (truth b))) → (zs : List ℤ) × Block n zs × (p (At zs) ≡ some (truth true))
        → (each (truth_at p) (choices I n ρ) >>= λ bs. some (truth (some_true bs))) ≡ some (truth true)
    exists_back p h w =
        let k = all_truths p h in
        let r = truth_there p k.0 k.1 w.0 w.1 in
        let q = w.2 in
        let j = r.1 in
        let b : r.0 ≡ true = cc in
        let t : some_true k.0 ≡ true = in_some k.0 (subst (λ (b : Bool). In b k.0) b r.2) in
        rw (k.1, t)

    -- the guard holds and the value is z
    guarded_is : (p e : Sense) (σ : List ℤ) (x : Bool × ℤ) → guarded p e σ ≡ some x → (p σ ≡ some (truth x.0)) × (e σ ≡ some (int x.1))
    guarded_is p e σ x q =
        let i = step_inv (truth_at p σ) q in
        let j = step_inv (int_at e σ) i.2 in
        let w = some_inj j.2 in
        (truth_read (p σ) x.0 (i.1 ∙ ap (λ (y : Bool × ℤ). some y.0) w), int_read (e σ) x.1 (j.1 ∙ ap (λ (y : Bool × ℤ). some y.1) w))

    collected_there : (p e : Sense) (xs : List (Bool × ℤ)) → each (guarded p e) (choices I n ρ) ≡ some xs → (z : ℤ) → In z (collect xs)
        → (zs : List ℤ) × Block n zs × (p (At zs) ≡ some (truth true)) × (e (At zs) ≡ some (int z))
    collected_there p e xs q z m =
        let r = each_from (guarded p e) (choices I n ρ) xs q (collect_in xs z m) in
        let c = choice_block n ρ r.0 r.1 in
        let g = guarded_is p e r.0 (true, z) r.2 in
        (c.0, c.1, rw (← c.2) g.0, rw (← c.2) g.1)

    in_true : (xs : List (Bool × ℤ)) (x : Bool × ℤ) (z : ℤ) → x.0 ≡ true → x.1 ≡ z → In x xs → In (true, z) xs
    in_true xs x z b y m = subst (λ (w : Bool × ℤ). In w xs) (ap₂ (λ (c : Bool) (u : ℤ). (c, u)) b y) m

    collected_back : (p e : Sense) (xs : List (Bool × ℤ)) → each (guarded p e) (choices I n ρ) ≡ some xs → (z : ℤ)
        → (zs : List ℤ) × Block n zs × (p (At zs) ≡ some (truth true)) × (e (At zs) ≡ some (int z)) → In z (collect xs)
    collected_back p e xs q z w =
        let r = each_in (guarded p e) (choices I n ρ) xs q (block_choice n ρ w.0 w.1) in
        let g = guarded_is p e (At w.0) r.0 r.1 in
        let h = w.2 in
        let j = w.3 in
        let g₀ = g.0 in
        let g₁ = g.1 in
        let b : r.0.0 ≡ true = cc in
        let y : r.0.1 ≡ z = cc in
        in_collect xs z (in_true xs r.0 z b y r.2)

    -- ∀ holds exactly if its body holds for all integers of lo..hi, ..
    pub forall_holds : (p : Tree) → (eval ν (node (qu all n) (p ▹ nil)) ρ ≡ some (truth true)) ↔ ((zs : List ℤ) → Block n zs → eval ν p (reverse zs ++ ρ) ≡ some (truth true))
    unfolding fold
    forall_holds p = (forall_there (eval ν p), forall_back (eval ν p))

    -- .. ∃ if for some, ..
    pub exists_holds : (p : Tree) → type_of (types_of types) (length ρ + n) p ≡ some (base T.prop)
        → (eval ν (node (qu ex n) (p ▹ nil)) ρ ≡ some (truth true)) ↔ ((zs : List ℤ) × Block n zs × (eval ν p (reverse zs ++ ρ) ≡ some (truth true)))
    unfolding fold
    exists_holds p t = (exists_there (eval ν p), exists_back (eval ν p) (λ zs b. truth_of ν (length ρ + n) p t (reverse zs ++ ρ) (long zs b)))
      where
        long : (zs : List ℤ) → Block n zs → length (reverse zs ++ ρ) ≡ length ρ + n
        long zs b = let h = b.as_many in omega (arith, length-append (reverse zs) ρ, length-reverse zs)

    -- .. and a comprehension has the values of e where p holds
    pub comprehension : (p e : Tree) (s : List ℤ) → eval ν (node (qu compr n) (p ▹ e ▹ nil)) ρ ≡ some (set s)
        → (z : ℤ) → (member z s ≡ true) ↔ ((zs : List ℤ) × Block n zs × (eval ν p (reverse zs ++ ρ) ≡ some (truth true)) × (eval ν e (reverse zs ++ ρ) ≡ some (int z)))
    unfolding fold
    comprehension p e s q z =
        let i = step_inv (each (guarded (eval ν p) (eval ν e)) (choices I n ρ)) q in
        let h = i.2 in
        let c : collect i.0 ≡ s = cc in (
          λ m. collected_there (eval ν p) (eval ν e) i.0 i.1 z (rw c (member_in z s m)),
          λ w. in_member z s (subst (In z) c (collected_back (eval ν p) (eval ν e) i.0 i.1 z w)),
        )
