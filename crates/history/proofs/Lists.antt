-- Functions changed at one place, and beginnings of lists.
use Rattle.std.proofs.Common.{◌≡◌, ◌≢◌, ◌⊎◌, ℕ, List, [], ◌∷◌, ◌++◌, length, cond, eqb, refl, sym, ap, ◌∙◌, subst, inl, inr, ⊎_elim, append_assoc, append-nil, eq-eqb, ne_eqb, arith, length-append, zero, suc, replicate, slice_index_or}
use Rattle.std.proofs.lemmas.Bool.{cases_eq}
use Rattle.history.specs.Histories.{IsBeginning}

-- f, but x at i
unfoldable pub put : {A : Type 0} → (ℕ → A) → ℕ → A → ℕ → A
put f i x j = cond (eqb i j) x (f j)

module _ {A : Type 0} (f : ℕ → A) (i : ℕ) (x : A) where
  pub put_at : (j : ℕ) → i ≡ j → put f i x j ≡ x
  unfolding put
  put_at j e = ap (λ b. cond b x (f j)) (eq-eqb i j e)

  pub put_else : (j : ℕ) → i ≢ j → put f i x j ≡ f j
  unfolding put
  put_else j n = ap (λ b. cond b x (f j)) (ne_eqb i j n)

  pub put_all : (P : ℕ → A → Type 0) → P i x → ((j : ℕ) → i ≢ j → P j (f j)) → (j : ℕ) → P j (put f i x j)
  put_all P here there j =
      ⊎_elim
      (λ (e : i ≡ j). subst (λ (y : A). P j y) (sym (put_at j e)) (subst (λ (k : ℕ). P k x) e here))
      (λ (n : i ≢ j). subst (λ (y : A). P j y) (sym (put_else j n)) (there j n))
      (cases_eq i j)

  -- what another has is not changed
  pub put_other : (seat : ℕ → ℕ) (id : ℕ) (k j : ℕ) → seat i ≡ id → seat k ≡ j → j ≢ id → put f i x k ≡ f k
  put_other seat id k j mine its apart = put_else k (λ e. apart (sym its ∙ ap seat (sym e) ∙ mine))

-- f, but x at i and n
abbrev pub put_two : {A : Type 0} → (ℕ → ℕ → A) → ℕ → ℕ → A → ℕ → ℕ → A
put_two f i n x = put f i (put (f i) n x)

module _ {A : Type 0} (f : ℕ → ℕ → A) (i n : ℕ) (x : A) where
  pub put_two_at : (j m : ℕ) → i ≡ j → n ≡ m → put_two f i n x j m ≡ x
  put_two_at j m e d = ap (λ (g : ℕ → A). g m) (put_at f i (put (f i) n x) j e) ∙ put_at (f i) n x m d

  pub put_two_else : (j m : ℕ) → (i ≡ j → n ≡ m → ⊥) → put_two f i n x j m ≡ f j m
  put_two_else j m apart = ⊎_elim
      (λ (e : i ≡ j). ap (λ (g : ℕ → A). g m) (put_at f i (put (f i) n x) j e) ∙ put_else (f i) n x m (apart e) ∙ ap (λ (k : ℕ). f k m) e)
      (λ (d : i ≢ j). ap (λ (g : ℕ → A). g m) (put_else f i (put (f i) n x) j d))
      (cases_eq i j)

  -- what another has is not changed
  pub put_two_other : (seat : ℕ → ℕ → ℕ) (id : ℕ) (k m j : ℕ) → seat i n ≡ id → seat k m ≡ j → j ≢ id → put_two f i n x k m ≡ f k m
  put_two_other seat id k m j mine its apart = put_two_else k m (λ e d. apart (sym its ∙ (λ t. seat (sym e t) (sym d t)) ∙ mine))

-- what is said of both is kept by a change of both at one place
pub put_both : {A B : Type 0} (f : ℕ → A) (g : ℕ → B) (i : ℕ) (x : A) (y : B) (P : ℕ → A → B → Type 0) → P i x y → ((j : ℕ) → i ≢ j → P j (f j) (g j)) → (j : ℕ) → P j (put f i x j) (put g i y j)
put_both {A} {B} f g i x y P here there j =
    ⊎_elim
    (λ (e : i ≡ j). subst (λ (z : A). P j z (put g i y j)) (sym (put_at f i x j e)) (subst (λ (z : B). P j x z) (sym (put_at g i y j e)) (subst (λ (k : ℕ). P k x y) e here)))
    (λ (n : i ≢ j). subst (λ (z : A). P j z (put g i y j)) (sym (put_else f i x j n)) (subst (λ (z : B). P j (f j) z) (sym (put_else g i y j n)) (there j n)))
    (cases_eq i j)

pub replicate_at : {A : Type 0} (n k : ℕ) (a : A) → slice_index_or (replicate n a) k a ≡ a
replicate_at zero k a = refl
replicate_at (suc n) zero a = refl
replicate_at (suc n) (suc k) a = replicate_at n k a

module _ {A : Type 0} where
  pub begins_same : (a : List A) → IsBeginning a a
  begins_same a = record { rest = []; is = sym (append-nil a) }

  pub begins_front : (a b : List A) → IsBeginning a (a ++ b)
  begins_front a b = record { rest = b; is = refl }

  pub begins_more : (a b c : List A) → IsBeginning a b → IsBeginning a (b ++ c)
  begins_more a b c h = record { rest = h.rest ++ c; is = ap (λ l. l ++ c) h.is ∙ append_assoc a h.rest c }

  pub begins_trans : {a b c : List A} → IsBeginning a b → IsBeginning b c → IsBeginning a c
  begins_trans {a} {b} {c} h k = record { rest = h.rest ++ k.rest; is = k.is ∙ ap (λ l. l ++ k.rest) h.is ∙ append_assoc a h.rest k.rest }

  begins_cons : (x y : A) (a b : List A) → x ≡ y → IsBeginning a b → IsBeginning (x ∷ a) (y ∷ b)
  begins_cons x y a b e h = record { rest = h.rest; is = λ i. sym e i ∷ h.is i }

  unfoldable pub head_or : A → List A → A
  head_or d [] = d
  head_or d (x ∷ xs) = x

  unfoldable pub tail_of : List A → List A
  tail_of [] = []
  tail_of (x ∷ xs) = xs

  -- two beginnings of one list
  pub in_line : (a b l : List A) → IsBeginning a l → IsBeginning b l → IsBeginning a b ⊎ IsBeginning b a
  unfolding head_or tail_of
  in_line [] b l h k = inl (record { rest = b; is = refl })
  in_line (x ∷ a) [] l h k = inr (record { rest = x ∷ a; is = refl })
  in_line (x ∷ a) (y ∷ b) [] h k = absurd (let e = ap length h.is in omega arith)
  in_line (x ∷ a) (y ∷ b) (z ∷ l) h k =
      let one : z ≡ x = ap (head_or z) h.is in
      let two : z ≡ y = ap (head_or z) k.is in
      ⊎_elim
      (λ (t : IsBeginning a b). inl (begins_cons x y a b (sym one ∙ two) t))
      (λ (t : IsBeginning b a). inr (begins_cons y x b a (sym two ∙ one) t))
      (in_line a b l (record { rest = h.rest; is = ap tail_of h.is }) (record { rest = k.rest; is = ap tail_of k.is }))

  -- a list has no element or a last one
  pub last_or_none : (l : List A) → (l ≡ []) ⊎ ((front : List A) × (x : A) × (l ≡ front ++ x ∷ []))
  last_or_none [] = inl refl
  last_or_none (x ∷ xs) = ⊎_elim
      (λ (e : xs ≡ []). inr ([], x, ap (λ l. x ∷ l) e))
      (λ (t : (front : List A) × (y : A) × (xs ≡ front ++ y ∷ [])). inr (x ∷ t.0, t.1, ap (λ l. x ∷ l) t.2))
      (last_or_none xs)

  -- two lists with a last element each are equal in both parts
  pub last_same : (a b : List A) (x y : A) → a ++ x ∷ [] ≡ b ++ y ∷ [] → (a ≡ b) × (x ≡ y)
  unfolding head_or tail_of
  last_same [] [] x y e = (refl, ap (head_or x) e)
  last_same [] (b ∷ bs) x y e = absurd (let n = ap length e in let m = length-append bs (y ∷ []) in omega arith)
  last_same (a ∷ more) [] x y e = absurd (let n = ap length e in let m = length-append more (x ∷ []) in omega arith)
  last_same (a ∷ more) (b ∷ bs) x y e =
      let t = last_same more bs x y (ap tail_of e) in
      let h : a ≡ b = ap (head_or a) e in
      ((λ i. h i ∷ t.0 i), t.1)
