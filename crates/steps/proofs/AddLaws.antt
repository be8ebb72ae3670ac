-- Formulas among those of a list, and formulas added.
use Prim.Native.Nat.{ℕ, ◌+◌, ◌<◌, ◌≤◌}
use mathlib.Core.Path.{◌≡◌, refl, sym, ◌∙◌}
use mathlib.Core.Bool.{Bool, true, false, not}
use mathlib.Core.List.{List, [], ◌∷◌}
use native.Mathlib.Omega.{arith}
use lib.ListN.{length, length-append}
use Rattle.std.specs.Prelude.{Some, None, Result, Ok, Err}
use Rattle.formula.specs.Tree.{Tree, encode}
use Rattle.formula.specs.Equal.{same_bytes, same}
use Rattle.desk.specs.Sequent.{Flag, plain, Hypothesis, among, hypothesis}
use Rattle.desk.specs.Hypotheses.{added_flag, add_one, add_all, all_among}
use Rattle.desk.specs.Mirror.Bytes.{Stand, OnDesk, find_in, AppendIs}
use Rattle.desk.specs.Mirror.Desk.{flag_at, flag_from}
use Rattle.desk.specs.Mirror.Moves.{ListIs, formula_at, TooMuch}
use Rattle.steps.specs.Mirror.Steps.{flag_by, ChangeAtIs, StepTo, AmongIs, AllAmongIs, added_act, AddOneIs, AddAllIs}
use Rattle.desk.specs.declared.Desk.{Desk}
use Rattle.desk.specs.declared.NoRoom.{NoRoom}
use Rattle.desk.specs.declared.hypotheses.Hypotheses.{Hypotheses}
use Rattle.desk.specs.declared.list.List.{List as Formulas}
use Rattle.desk.specs.declared.view.View.{View}
use Rattle.steps.specs.declared.flags.Act.{Act}
use Rattle.desk.proofs.AtPosition.{found_present, not_present, change_found, change_long}
use Rattle.desk.proofs.Formulas.{Any, all_any}
use Rattle.desk.proofs.Found.{find_some, find_no}
use Rattle.desk.proofs.Room.{too_much_one, too_much_grown}
use Rattle.desk.proofs.StepsGrow.{adds_grown}
use Rattle.steps.proofs.Listings.{Walk, walk_starts, walk_goes, walk_stops, walk_ends}

-- nothing but the formulas changes from turn to turn
abbrev Same : Unit {0} → Type 0
Same u = Unit {0}

-- ---- among the formulas of a list
abbrev among_work : Tree → List Tree → Unit {0} → Bool
among_work y xs u = among y xs

unfoldable pub AmongLeft : Formulas → List ℕ → ℕ → Type 0
AmongLeft l x i = (xs : List Tree) (y : Tree) → ListIs l xs → x ≡ encode y → Walk (among_work y) xs tt l i Same

module _ (l : Formulas) (x : List ℕ) where
  pub among_start : AmongLeft l x 0
  unfolding AmongLeft
  among_start xs y L x≡ = walk_starts (among_work y) xs tt l Same L tt

  module _ (i : ℕ) (I : AmongLeft l x i) where
    module _ (m : i < l.count) (z : List ℕ) (z≡ : z ≡ formula_at l i) (r : Bool) (S : r ≡ same_bytes z x) where
      here : (y w : Tree) → x ≡ encode y → formula_at l i ≡ encode w → (t : Bool) → r ≡ t → same w y ≡ t
      unfolding same
      here y w x≡ w≡ t q = sym (S ∙ rw (z≡, w≡, x≡) refl) ∙ q

      pub among_goes : r ≡ false → AmongLeft l x (i + 1)
      unfolding AmongLeft among
      among_goes t xs y L x≡ = walk_goes (among_work y) xs tt l i Same (I xs y L x≡) Same m (λ w rest u W s. (tt, rw (here y w x≡ W false t) refl, tt))

      pub among_found : r ≡ true → AmongIs l x true
      unfolding AmongLeft AmongIs among
      among_found t xs y L x≡ = walk_stops (among_work y) xs tt l i Same (I xs y L x≡) (λ s. true ≡ s) m (λ w rest u W s. rw (here y w x≡ W true t) refl)

    pub among_ends : l.count ≤ i → AmongIs l x false
    unfolding AmongLeft AmongIs among
    among_ends m xs y L x≡ = walk_ends (among_work y) xs tt l i Same (I xs y L x≡) (λ s. false ≡ s) m (λ u w. refl)

pub ruleset amongs = (among_start, among_goes, among_found, among_ends)

-- ---- each of a list among another
abbrev all_work : List Tree → List Tree → Unit {0} → Bool
all_work xs us u = all_among us xs

unfoldable pub AllAmongLeft : Formulas → Formulas → ℕ → Type 0
AllAmongLeft u a i = (us xs : List Tree) → ListIs u us → ListIs a xs → Walk (all_work xs) us tt u i Same

module _ (u a : Formulas) where
  pub all_start : AllAmongLeft u a 0
  unfolding AllAmongLeft
  all_start us xs U A = walk_starts (all_work xs) us tt u Same U tt

  module _ (i : ℕ) (I : AllAmongLeft u a i) where
    module _ (m : i < u.count) (z : List ℕ) (z≡ : z ≡ formula_at u i) (r : Bool) (S : AmongIs a z r) where
      pub all_goes : r ≡ true → AllAmongLeft u a (i + 1)
      unfolding AllAmongLeft AmongIs all_among
      all_goes t us xs U A = walk_goes (all_work xs) us tt u i Same (I us xs U A) Same m (λ w rest v W s. (tt, rw (sym (S xs w A (z≡ ∙ W)) ∙ t) refl, tt))

      pub all_not : r ≡ false → AllAmongIs u a false
      unfolding AllAmongLeft AllAmongIs AmongIs all_among
      all_not t us xs U A = walk_stops (all_work xs) us tt u i Same (I us xs U A) (λ s. false ≡ s) m (λ w rest v W s. rw (sym (S xs w A (z≡ ∙ W)) ∙ t) refl)

    pub all_ends : u.count ≤ i → AllAmongIs u a true
    unfolding AllAmongLeft AllAmongIs all_among
    all_ends m us xs U A = walk_ends (all_work xs) us tt u i Same (I us xs U A) (λ s. true ≡ s) m (λ v w. refl)

pub ruleset all_amongs = (all_start, all_goes, all_not, all_ends)

-- ---- one formula added
added_is : (b : Bool) (f : Flag) → flag_by (added_act b) f ≡ added_flag b f
added_is true f = refl
added_is false f = refl

added_new : (b : Bool) → flag_from false (not b) ≡ added_flag b plain
added_new true = refl
added_new false = refl

module _ (d : Desk) (h : Hypotheses) (x : List ℕ) (keep : Bool) (b≡ : h.bytes.now ≡ d.bytes) (p≡ : h.places.now ≡ d.places) (v≡ : h.view ≡ d.view) where
  stands : (types : List ℕ) (hs : List Hypothesis) → OnDesk d types hs → Stand h types hs
  stands types hs H = rw (b≡, p≡, v≡) H

  pub add_there : (i : ℕ) (k : Act) (w : View) → Some i ≡ find_in h x → k ≡ added_act keep → ChangeAtIs d.view i k w → AddOneIs d x keep (record d { view = w }) (Ok tt)
  unfolding AddOneIs StepTo ChangeAtIs add_one
  add_there i k w F k≡ C types hs us y H few x≡ g =
      let f = find_some h x types hs y (stands types hs H) few x≡ i F in
      let c = C d.bytes d.places types hs H (omega (arith, f.0, f.1)) few in
      let e = rw (k≡, added_is keep (flag_at hs i)) at c in
      rw (found_present y hs f.1, ← g) (rw (change_found y (added_flag keep) hs f.1, ← f.0) e, rw (change_long (added_flag keep) y hs) few)

  module _ (F : None ≡ find_in h x) (d' : Desk) where
    pub add_new : (r : Result Unit NoRoom) → AppendIs d x false (not keep) d' r → AddOneIs d x keep d' r
    unfolding AddOneIs StepTo add_one
    add_new (Ok u) A types hs us y H few x≡ g =
        let f = find_no h x types hs y (stands types hs H) few x≡ F in
        let o = A types hs y H x≡ few in
        let k = length-append hs (hypothesis (added_flag keep plain) y ∷ []) in
        rw (not_present y hs f, ← g) (rw (added_new keep) at o.0, omega (arith, o.1))
    add_new (Err n) A types hs us y H few x≡ g =
        let f = find_no h x types hs y (stands types hs H) few x≡ F in
        rw (not_present y hs f, ← g) (too_much_one types hs d.bytes d.places d.view _ y H (A types hs y H x≡ few))

pub ruleset adds = (add_there, add_new)

-- ---- all of them
-- the desk has these hypotheses
abbrev On : Desk → List ℕ → List Hypothesis → Type 0
On d types hs = OnDesk d types hs × (length hs ≤ 64)

unfoldable pub AddLeft : Desk → Formulas → Formulas → Desk → ℕ → Type 0
AddLeft d₀ a u d i =
    (types : List ℕ) (hs : List Hypothesis) (xs us : List Tree) → OnDesk d₀ types hs → length hs ≤ 64 → ListIs a xs → ListIs u us
    → Walk (add_all us) xs hs a i (On d types)

module _ (d₀ : Desk) (a u : Formulas) where
  pub add_start : AddLeft d₀ a u d₀ 0
  unfolding AddLeft
  add_start types hs xs us H few A U = walk_starts (add_all us) xs hs a (On d₀ types) A (H, few)

  module _ (d : Desk) (i : ℕ) (I : AddLeft d₀ a u d i) where
    module _ (m : i < a.count) (x : List ℕ) (x≡ : x ≡ formula_at a i) (keep : Bool) (K : AmongIs u x keep) (d' : Desk) (r : Result Unit NoRoom) (O : AddOneIs d x keep d' r) where
      pub add_goes : (t : Unit) → r ≡ Ok t → AddLeft d₀ a u d' (i + 1)
      unfolding AddLeft AmongIs AddOneIs StepTo add_all
      add_goes t q types hs xs us H few A U =
          walk_goes (add_all us) xs hs a i (On d types) (I types hs xs us H few A U) (On d' types) m
          (λ y rest now X h. (add_one us y now, refl, rw q at (O types now us y h.0 h.1 (x≡ ∙ X) (K us y U (x≡ ∙ X)))))

      pub add_stops : (n : NoRoom) → r ≡ Err n → (n' : NoRoom) → AddAllIs d₀ a u d' (Err n')
      unfolding AddLeft AddAllIs AmongIs AddOneIs StepTo add_all
      add_stops n q n' types hs xs us H few A U =
          walk_stops (add_all us) xs hs a i (On d types) (I types hs xs us H few A U) (TooMuch types) m
          (λ y rest now X h. too_much_grown types _ Any _ (adds_grown Any us rest (add_one us y now) (all_any rest)) (rw q at (O types now us y h.0 h.1 (x≡ ∙ X) (K us y U (x≡ ∙ X)))))

    pub add_ends : a.count ≤ i → AddAllIs d₀ a u d (Ok tt)
    unfolding AddLeft AddAllIs StepTo add_all
    add_ends m types hs xs us H few A U = walk_ends (add_all us) xs hs a i (On d types) (I types hs xs us H few A U) (On d types) m (λ now h. h)

pub ruleset adding = (add_start, add_goes, add_stops, add_ends)
