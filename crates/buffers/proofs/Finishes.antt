-- What is written is the file of the sequent that the desk holds; where it is not, there is no room for it.
use Prim.Native.Nat.{ℕ, suc, ◌+◌, ◌-◌, ◌<◌, ◌≤◌}
use mathlib.Core.Path.{◌≡◌, refl, sym, ap, ◌∙◌}
use mathlib.Core.Bool.{Bool, true, false, ◌||◌}
use mathlib.Core.List.{List, [], ◌∷◌, ◌++◌, append_assoc}
use native.Mathlib.Numerals.{add-one}
use native.Mathlib.Nat.{add-zero, zero-add}
use native.Mathlib.Omega.{arith}
use lib.ListN.{length, take, drop, set, length-append, length-set, length-drop, take-append-drop}
use lib.Seq.{take-add, take_at, take-suc-set, drop-append-add, drop-drop, drop-set-lt, length-take-le}
use lib.Dec.{ltb}
use borrow.Author.Tests.{le-ltb, lt-ltb, ltb-false}
use Rattle.std.specs.Prelude.{Ok, Err}
use Rattle.std.proofs.lemmas.List.{take_all}
use Rattle.refusal.specs.Refusal.{act_said}
use Rattle.refusal.specs.declared.Said.{Said}
use Rattle.refusal.specs.declared.Cause.TheVariants as cause
use Rattle.formula.specs.Tree.{Tree, encode}
use Rattle.desk.specs.Sequent.{Hypothesis, Sequent, sequent_of}
use Rattle.desk.specs.File.{flag_byte, header, hypotheses_bytes, encode_sequent}
use Rattle.desk.specs.Mirror.Desk.{places_from, HypothesesStand, flag_at}
use Rattle.desk.specs.Mirror.Masks.{flag_byte_of}
use Rattle.desk.specs.declared.view.View.{View}
use Rattle.desk.specs.declared.hypotheses.Hypotheses.{Hypotheses}
use Rattle.desk.specs.Mirror.Bytes.{Stand}
use Rattle.desk.proofs.MaskLaws.{byte_is}
use Rattle.desk.proofs.Laid.{same_part, stand_there}
use Rattle.desk.proofs.Found.{place_is, places_on}
use Rattle.buffers.specs.Outcome.{no_room, finish}
use Rattle.buffers.specs.Mirror.Buffers.{FinishIs}
use Rattle.buffers.specs.Mirror.WriteBytes.{Fitting, low_byte, with_header, with_flags, file_on, put_at}

-- ---- the flags
stand_after : (o o' : List ℕ) (p : ℕ) → ((k : ℕ) → p ≤ k → drop k o' ≡ drop k o) → (hs : List Hypothesis) → HypothesesStand o p hs → HypothesesStand o' p hs
unfolding HypothesesStand
stand_after o o' p f [] s = s
stand_after o o' p f (h ∷ hs) s =
    let n = length (encode h.formula) in
    (ap (take n) (f (p + 1) (omega arith)) ∙ s.0, stand_after o o' (p + 1 + n) (λ k m. f k (omega arith)) hs s.1)

module _ (l : List ℕ) (v : View) where
  flags_are : (hs : List Hypothesis) (p i : ℕ) (o : List ℕ) → take (suc (length hs)) (drop i l) ≡ places_from p hs → HypothesesStand o p hs
      → ((j : ℕ) → j < length hs → flag_byte_of v (i + j) ≡ flag_byte (flag_at hs j)) → p + length (hypotheses_bytes hs) ≤ length o
      → with_flags (length hs) l v i o ≡ take p o ++ (hypotheses_bytes hs ++ drop (p + length (hypotheses_bytes hs)) o)
  unfolding with_flags places_from HypothesesStand hypotheses_bytes flag_at
  flags_are [] p i o q s f h = sym (ap (λ (n : ℕ). take p o ++ drop n o) (add-zero p) ∙ take-append-drop p o)
  flags_are (z ∷ hs) p i o q s f h =
      let n = length (encode z.formula) in
      let b = flag_byte z.flag in
      let m = length (hypotheses_bytes hs) in
      let w = length-append (encode z.formula) (hypotheses_bytes hs) in
      let w' = length-set o p b in
      let t = places_on l i (suc (length hs)) p (places_from (p + 1 + n) hs) q in
      let byte : flag_byte_of v i ≡ b = ap (flag_byte_of v) (sym (add-zero i)) ∙ f 0 (omega arith) in
      let later : (j : ℕ) → j < length hs → flag_byte_of v (i + 1 + j) ≡ flag_byte (flag_at hs j) = λ j k. let e : i + 1 + j ≡ i + suc j = omega arith in ap (flag_byte_of v) e ∙ f (suc j) (omega arith) in
      let s' = stand_after o (set o p b) (p + 1 + n) (λ k r. drop-set-lt k o p b (omega arith)) hs s.1 in
      let r = flags_are hs (p + 1 + n) (i + 1) (set o p b) t s' later (omega arith) in
      let front : take (p + 1 + n) (set o p b) ≡ (take p o ++ (b ∷ [])) ++ encode z.formula =
      take-add (p + 1) n (set o p b) ∙ ap (λ (x : List ℕ). x ++ take n (drop (p + 1) (set o p b))) (ap (λ (k : ℕ). take k (set o p b)) (add-one p) ∙ take-suc-set o p b (omega arith))
      ∙ ap (λ (x : List ℕ). (take p o ++ (b ∷ [])) ++ x) (ap (take n) (drop-set-lt (p + 1) o p b (omega arith)) ∙ s.0) in
      let back : drop (p + 1 + n + m) (set o p b) ≡ drop (p + suc (length (encode z.formula ++ hypotheses_bytes hs))) o =
      let k : p + 1 + n + m ≡ p + suc (length (encode z.formula ++ hypotheses_bytes hs)) = omega arith in
      drop-set-lt (p + 1 + n + m) o p b (omega arith) ∙ ap (λ (j : ℕ). drop j o) k in
      ap (λ (k : ℕ). with_flags (length hs) l v (i + 1) (set o k (flag_byte_of v i))) (place_is l i (suc (length hs)) p (places_from (p + 1 + n) hs) q)
      ∙ ap (λ (k : ℕ). with_flags (length hs) l v (i + 1) (set o p k)) byte ∙ r
      ∙ ap (λ (x : List ℕ). x ++ (hypotheses_bytes hs ++ drop (p + 1 + n + m) (set o p b))) front
      ∙ ap (λ (x : List ℕ). ((take p o ++ (b ∷ [])) ++ encode z.formula) ++ (hypotheses_bytes hs ++ x)) back
      ∙ simp append_assoc

-- ---- the file
drop_front : (xs o : List ℕ) (k : ℕ) → length xs ≤ k → drop k (xs ++ drop (length xs) o) ≡ drop k o
drop_front xs o k h =
    let e : k ≡ length xs + (k - length xs) = omega arith in
    ap (λ (n : ℕ). drop n (xs ++ drop (length xs) o)) e ∙ drop-append-add xs (drop (length xs) o) (k - length xs) ∙ drop-drop (k - length xs) (length xs) o ∙ ap (λ (n : ℕ). drop n o) (sym e)

low_is : (n m : ℕ) → n ≡ m → m ≤ 64 → low_byte n ≡ m
unfolding low_byte
low_is n m e h = let k : n < 256 = omega arith in simp (lt-ltb _ _ k) e

-- where there is room for the header, all of it is written
header_whole : (t h : ℕ) (o : List ℕ) → 8 ≤ length o → with_header t h o ≡ put_at 0 (header (low_byte t) (low_byte h)) o
unfolding with_header
header_whole t h o room = rw (take_all (length o) (header (low_byte t) (low_byte h)) room) refl

count : (h : Hypotheses) (types : List ℕ) (hs : List Hypothesis) (g : List ℕ) (goal : Tree) → Stand h types hs → g ≡ encode goal
    → length (encode_sequent (sequent_of types hs goal)) ≡ h.view.end + length g
unfolding encode_sequent
count h types hs g goal H R = simp length-append (omega (arith, H.end_is, ap length R))

module _ (E : Hypotheses) (types : List ℕ) (hs : List Hypothesis) (g : List ℕ) (goal : Tree) (o : List ℕ) (H : Stand E types hs) (R : g ≡ encode goal) (F : Fitting E g (length o)) (few : length types ≤ 64) (most : length hs ≤ 64) where
  abbrev d : List ℕ
  d = E.bytes.now

  abbrev l : List ℕ
  l = E.places.now

  abbrev v : View
  v = E.view

  HD : List ℕ
  HD = header (length types) (length hs)

  A : List ℕ
  A = (HD ++ types) ++ hypotheses_bytes hs

  a_long : length A ≡ v.end
  unfolding A HD
  a_long = simp length-append (omega (arith, H.end_is))

  o₁ : List ℕ
  o₁ = put_at 0 (take v.end d) o

  o₁_is : o₁ ≡ take v.end d ++ drop (length (take v.end d)) o
  unfolding o₁
  o₁_is = refl

  o₁_long : length o₁ ≡ length o
  o₁_long = ap length o₁_is ∙ simp (length-append, length-drop) (omega (arith, length-take-le v.end d F.on_desk, F.in_room))

  o₁_front : take v.end o₁ ≡ take v.end d
  o₁_front = ap (take v.end) o₁_is ∙ take_at (take v.end d) (drop (length (take v.end d)) o) v.end (length-take-le v.end d F.on_desk)

  o₁_back : drop v.end o₁ ≡ drop v.end o
  o₁_back = let w = length-take-le v.end d F.on_desk in ap (drop v.end) o₁_is ∙ drop_front (take v.end d) o v.end (omega arith)

  o₂ : List ℕ
  o₂ = with_header v.identifiers v.hypotheses o₁

  o₂_is : o₂ ≡ HD ++ drop 8 o₁
  unfolding o₂ HD
  o₂_is = rw (header_whole v.identifiers v.hypotheses o₁ (omega (arith, o₁_long, F.in_room, H.end_is)), low_is v.identifiers (length types) H.identifiers_are few, low_is v.hypotheses (length hs) H.hypotheses_are most) refl

  o₂_long : length o₂ ≡ length o
  unfolding HD
  o₂_long = ap length o₂_is ∙ simp (length-drop) (omega (arith, o₁_long, F.in_room, H.end_is))

  o₂_back : (k : ℕ) → 8 ≤ k → drop k o₂ ≡ drop k o₁
  unfolding HD
  o₂_back k h = ap (drop k) o₂_is ∙ drop_front HD o₁ k h

  o₂_front : take (8 + length types) o₂ ≡ HD ++ types
  unfolding HD
  o₂_front =
      take-add 8 (length types) o₂
      ∙ ap (λ (x : List ℕ). x ++ take (length types) (drop 8 o₂)) (ap (take 8) o₂_is ∙ take_at HD (drop 8 o₁) 8 refl)
      ∙ ap (λ (x : List ℕ). HD ++ take (length types) x) (o₂_back 8 (omega arith))
      ∙ ap (λ (x : List ℕ). HD ++ x) (same_part d o₁ 8 (length types) v.end o₁_front (omega (arith, H.end_is)) ∙ H.types_are)

  o₃ : List ℕ
  o₃ = with_flags v.hypotheses l v 0 o₂

  o₃_is : o₃ ≡ A ++ drop v.end o
  unfolding o₃ A
  o₃_is =
      let w = H.end_is in
      let s = stand_after o₁ o₂ (8 + length types) (λ k h. o₂_back k (omega arith)) hs (stand_there d o₁ v.end o₁_front (8 + length types) hs (omega arith) H.stand) in
      let bytes : (j : ℕ) → j < length hs → flag_byte_of v (0 + j) ≡ flag_byte (flag_at hs j) = λ j k. ap (flag_byte_of v) (zero-add j) ∙ byte_is v hs j H.hidden_is H.selected_is k (omega arith) in
      ap (λ (n : ℕ). with_flags n l v 0 o₂) H.hypotheses_are
      ∙ flags_are l v hs (8 + length types) 0 o₂ H.places_are s bytes (omega (arith, o₂_long, F.in_room))
      ∙ ap (λ (x : List ℕ). x ++ (hypotheses_bytes hs ++ drop (8 + length types + length (hypotheses_bytes hs)) o₂)) o₂_front
      ∙ ap (λ (n : ℕ). (HD ++ types) ++ (hypotheses_bytes hs ++ drop n o₂)) (sym w)
      ∙ ap (λ (x : List ℕ). (HD ++ types) ++ (hypotheses_bytes hs ++ x)) (o₂_back v.end (omega arith) ∙ o₁_back)
      ∙ sym (append_assoc (HD ++ types) (hypotheses_bytes hs) (drop v.end o))

  abbrev q : Sequent
  q = sequent_of types hs goal

  pub file_long : length (encode_sequent q) ≡ v.end + length g
  file_long = count E types hs g goal H R

  whole_is : encode_sequent q ≡ A ++ encode goal
  unfolding encode_sequent A HD
  whole_is = simp append_assoc

  pub file_is : file_on E g o ≡ encode_sequent q ++ drop (length (encode_sequent q)) o
  unfolding file_on o₁ o₂ o₃
  file_is =
      let n≡ : v.end + length g ≡ length (encode_sequent q) = sym file_long in
      let a≡ = a_long in
      let r : o₃ ≡ A ++ drop (length A) o = o₃_is ∙ ap (λ (n : ℕ). A ++ drop n o) (sym a≡) in
      ap (put_at v.end g) r
      ∙ ap (λ (x : List ℕ). x ++ (g ++ drop (length g) (drop v.end (A ++ drop (length A) o)))) (take_at A (drop (length A) o) v.end a≡)
      ∙ ap (λ (x : List ℕ). A ++ (g ++ drop (length g) x)) (drop_front A o v.end (omega arith))
      ∙ ap (λ (x : List ℕ). A ++ (g ++ x)) (drop-drop (length g) v.end o)
      ∙ ap (λ (n : ℕ). A ++ (g ++ drop n o)) n≡
      ∙ ap (λ (x : List ℕ). A ++ (x ++ drop (length (encode_sequent q)) o)) R
      ∙ sym (append_assoc A (encode goal) (drop (length (encode_sequent q)) o))
      ∙ ap (λ (x : List ℕ). x ++ drop (length (encode_sequent q)) o) (sym whole_is)

-- ---- the answers
module _ (h : Hypotheses) (g : List ℕ) (changed : Bool) (o : List ℕ) where
  room_left : (types : List ℕ) (hs : List Hypothesis) (goal : Tree) → length hs ≤ 64 → (n : ℕ) → length (encode_sequent (sequent_of types hs goal)) ≡ n → n ≤ 60000 → n ≤ length o
      → no_room (length o) (sequent_of types hs goal) ≡ false
  unfolding no_room
  room_left types hs goal m n n≡ h k = rw n≡ (simp (le-ltb _ _ m, le-ltb _ _ h, le-ltb _ _ k))

  pub finish_is : (o' : List ℕ) (n : ℕ) → Fitting h g (length o) → o' ≡ file_on h g o → n ≡ h.view.end + length g → FinishIs h g changed o o' (Ok (record { changed = changed; len = n }))
  unfolding finish
  finish_is o' n F e≡ n≡ types hs goal H few most R =
      let l≡ = file_long h types hs g goal o H R F few most in
      let room = room_left types hs goal most (h.view.end + length g) l≡ F.short F.in_room in
      rw room (ap (λ (n : ℕ). Ok (record { changed = changed; len = n })) (n≡ ∙ sym l≡), e≡ ∙ file_is h types hs g goal o H R F few most)

  none_left : (types : List ℕ) (hs : List Hypothesis) (goal : Tree) → length hs ≤ 64 → (n : ℕ) → length (encode_sequent (sequent_of types hs goal)) ≡ n
      → ((n ≤ 60000) → (n ≤ length o) → ⊥) → no_room (length o) (sequent_of types hs goal) ≡ true
  unfolding no_room
  none_left types hs goal m n n≡ h = rw n≡ (simp (le-ltb _ _ m) (go (ltb 60000 n) (ltb (length o) n) refl refl))
    where
      go : (x y : Bool) → ltb 60000 n ≡ x → ltb (length o) n ≡ y → (x || y) ≡ true
      go true y p q = refl
      go false true p q = refl
      go false false p q = absurd (h (ltb-false 60000 n p) (ltb-false (length o) n q))

  pub finish_no : (z : Said) → (Fitting h g (length o) → ⊥) → z ≡ act_said cause.Room → FinishIs h g changed o o (Err z)
  unfolding finish
  finish_no z over z≡ types hs goal H few most R =
      let full = none_left types hs goal most (h.view.end + length g) (count h types hs g goal H R)
      (λ short in_room. over (record { few = omega (arith, H.hypotheses_are); on_desk = H.in_desk; short = short; in_room = in_room })) in
      rw full (ap Err z≡, refl)
