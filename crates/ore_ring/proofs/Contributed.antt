-- Contributions that are collected first and then added, against products and adjoints that add them at once.
--     Overflows                               a result stops with Overflow alone
--     bind_overflows                          so does what goes on from one that does
--     product_collected, adjoint_collected    what the collected contributions make is what the definition gives
--     times_overflows, plus_overflows         a product whose degrees fit, and a sum, stop with Overflow alone
use Rattle.std.proofs.Common.{◌≡◌, Bool, true, false, cond, List, [], ◌∷◌, ◌++◌, ℤ, refl, sym, ap, ◌∙◌, subst}
use Rattle.std.specs.declared.result.Result.{Result}
use Rattle.std.specs.declared.result.Result.TheVariants.{Ok, Err}
use Rattle.ore_algebra.specs.Free.{empty_sum}
use Rattle.ore_algebra.proofs.ResultLaws.{bind_assoc, bind_like, bind_ok}
use Rattle.ore_algebra.specs.Limits.{Limits, Cause, Overflow, Degree, ◌>>=◌, guard, fold_within}
use Rattle.ore_rational.specs.Fraction.{Fraction, whole, mul}
use Rattle.ore_rational.specs.Within.{sum_fits, sum_within, fits, product_within}
use Rattle.ore_rational.specs.Field.{rationals}
use Rattle.ore_monomial.specs.Monomial.{Monomial, plain_cmp}
use Rattle.ore_monomial.specs.Signature.{Signature}
use Rattle.ore_monomial.specs.LetterRule.{Operator}
use Rattle.ore_monomial.specs.Numbers.{numbers, numbers_within}
use Rattle.ore_ring.specs.Terms.{Summand, Terms, falling}
use Rattle.ore_ring.specs.Within.{add_term_within, contribute, pair_within, row_within, plus_within, times_within, degrees_fit}
use Rattle.ore_ring.specs.AdjointWithin.{adjoint_term_within, coordinate_part, letter_part, sign_of}
use Rattle.ore_ring.specs.Contributions.{add_terms_within, push_number, push_product, push_pair, push_row, push_adjoint}

-- it stops with Overflow alone
abbrev pub Overflows : {A : Type 0} → Result A Cause → Type 0
Overflows r = (e : Cause) → r ≡ Err e → e ≡ Overflow

-- two operations that stop with Overflow alone may change places
swap : {A B D : Type 0} (r : Result A Cause) (s : Result B Cause) (f : A → B → Result D Cause) → Overflows r → Overflows s → (r >>= λ x. s >>= λ y. f x y) ≡ (s >>= λ y. r >>= λ x. f x y)
swap (Ok x) (Ok y) f h k = refl
swap (Ok x) (Err e) f h k = refl
swap (Err e) (Ok y) f h k = refl
swap (Err e) (Err d) f h k = ap Err (h e refl ∙ sym (k d refl))

test_overflows : {A : Type 0} (b : Bool) (x : A) → Overflows (guard b x Overflow)
test_overflows true x e h = let no : ⊥ = cc in absurd no
test_overflows false x e h = cc

pub bind_overflows : {A B : Type 0} (r : Result A Cause) (f : A → Result B Cause) → Overflows r → ((x : A) → Overflows (f x)) → Overflows (r >>= f)
bind_overflows (Ok x) f h k e g = k x e g
bind_overflows (Err d) f h k e g = let w : d ≡ e = cc in sym w ∙ h d refl

fold_overflows : {A S : Type 0} (step : S → A → Result S Cause) → ((s : S) (x : A) → Overflows (step s x)) → (s : S) (xs : List A) → Overflows (fold_within step s xs)
fold_overflows step h s [] e g = let no : ⊥ = cc in absurd no
fold_overflows step h s (x ∷ xs) e g = bind_overflows (step s x) (λ t. fold_within step t xs) (h s x) (λ t. fold_overflows step h t xs) e g

-- a fold of steps, of which each may be followed by going over to another state
fold_through : {A S U : Type 0} (f : S → A → Result S Cause) (g : U → A → Result U Cause) (over : S → Result U Cause) → ((s : S) (x : A) → (f s x >>= over) ≡ (over s >>= λ u. g u x)) → (s : S) (xs : List A) → (fold_within f s xs >>= over) ≡ (over s >>= λ u. fold_within g u xs)
fold_through f g over h s [] = sym (bind_ok (over s))
fold_through f g over h s (x ∷ xs) =
    bind_assoc (f s x) (λ t. fold_within f t xs) over
    ∙ bind_like (f s x) _ _ (λ t. fold_through f g over h t xs)
    ∙ sym (bind_assoc (f s x) over (λ u. fold_within g u xs))
    ∙ ap (λ r. r >>= λ u. fold_within g u xs) (h s x)
    ∙ bind_assoc (over s) (λ u. g u x) (λ u. fold_within g u xs)

module _ (l : Limits) where
  sum_overflows : (p q : Fraction) → Overflows (sum_within l p q)
  unfolding sum_within
  sum_overflows p q = test_overflows (sum_fits l p q) _

  product_overflows : (p q : Fraction) → Overflows (product_within l p q)
  unfolding product_within
  product_overflows p q = test_overflows (fits l (mul p q)) _

  numbers_overflow : (ks : List (Monomial × ℤ)) → Overflows (numbers_within l ks)
  unfolding numbers_within
  numbers_overflow ks = test_overflows _ ks

  abbrev step : Operator rationals → Summand → Result (Operator rationals) Cause
  step f t = add_term_within l f t.0 t.1

  step_overflows : (f : Operator rationals) (t : Summand) → Overflows (step f t)
  unfolding add_term_within
  step_overflows f t = bind_overflows (sum_within l _ t.1) _ (sum_overflows _ t.1) (λ s e h. let no : ⊥ = cc in absurd no)

  -- from the zero operator
  abbrev made : Terms → Result (Operator rationals) Cause
  made ts = add_terms_within l (empty_sum rationals plain_cmp) ts

  made_overflows : (ts : Terms) → Overflows (made ts)
  unfolding add_terms_within
  made_overflows ts = fold_overflows step step_overflows (empty_sum rationals plain_cmp) ts

  fold_snoc : (f : Operator rationals) (ts : Terms) (t : Summand) → fold_within step f (ts ++ t ∷ []) ≡ (fold_within step f ts >>= λ g. step g t)
  fold_snoc f [] t = bind_ok (step f t)
  fold_snoc f (u ∷ ts) t = bind_like (step f u) _ _ (λ g. fold_snoc g ts t) ∙ sym (bind_assoc (step f u) (λ g. fold_within step g ts) (λ g. step g t))

  made_snoc : (ts : Terms) (t : Summand) → made (ts ++ t ∷ []) ≡ (made ts >>= λ g. step g t)
  unfolding add_terms_within
  made_snoc ts t = fold_snoc (empty_sum rationals plain_cmp) ts t

  number_made : (uv : Fraction) (out : Terms) (k : Monomial × ℤ) → (push_number l uv out k >>= made) ≡ (made out >>= λ f. contribute l uv f k)
  unfolding push_number contribute
  number_made uv out k =
      let c = product_within l uv (whole k.1) in
      bind_assoc c (λ x. Ok (out ++ (k.0, x) ∷ [])) made
      ∙ bind_like c _ _ (λ x. made_snoc out (k.0, x))
      ∙ swap c (made out) (λ x f. add_term_within l f k.0 x) (product_overflows uv (whole k.1)) (made_overflows out)

  numbers_made : (uv : Fraction) (out : Terms) (ks : List (Monomial × ℤ)) → (fold_within (push_number l uv) out ks >>= made) ≡ (made out >>= λ f. fold_within (contribute l uv) f ks)
  numbers_made uv = fold_through (push_number l uv) (contribute l uv) made (number_made uv)

  -- the whole numbers of a product of monomials, and their contributions
  product_made : (uv : Fraction) (out : Terms) (ks : List (Monomial × ℤ)) → ((numbers_within l ks >>= λ ks. fold_within (push_number l uv) out ks) >>= made) ≡ (made out >>= λ f. numbers_within l ks >>= λ ks. fold_within (contribute l uv) f ks)
  product_made uv out ks =
      bind_assoc (numbers_within l ks) _ made
      ∙ bind_like (numbers_within l ks) _ _ (λ rs. numbers_made uv out rs)
      ∙ swap (numbers_within l ks) (made out) (λ rs f. fold_within (contribute l uv) f rs) (numbers_overflow ks) (made_overflows out)

  pub plus_overflows : (f g : Operator rationals) → Overflows (plus_within l f g)
  unfolding plus_within
  plus_overflows f g = test_overflows _ _

  module _ (s : Signature) where
    pair_made : (t : Summand) (out : Terms) (u : Summand) → (push_pair l s t out u >>= made) ≡ (made out >>= λ f. pair_within l s t f u)
    unfolding push_pair push_product pair_within
    pair_made t out u =
        let uv = product_within l t.1 u.1 in
        bind_assoc uv _ made
        ∙ bind_like uv _ _ (λ x. product_made x out (numbers s t.0 u.0))
        ∙ swap uv (made out) (λ x f. numbers_within l (numbers s t.0 u.0) >>= λ ks. fold_within (contribute l x) f ks) (product_overflows t.1 u.1) (made_overflows out)

    row_made : (us : Terms) (out : Terms) (t : Summand) → (push_row l s us out t >>= made) ≡ (made out >>= λ f. row_within l s us f t)
    unfolding push_row row_within
    row_made us out t = fold_through (push_pair l s t) (pair_within l s t) made (pair_made t) out us

    contribute_overflows : (uv : Fraction) (f : Operator rationals) (k : Monomial × ℤ) → Overflows (contribute l uv f k)
    unfolding contribute
    contribute_overflows uv f k = bind_overflows (product_within l uv (whole k.1)) _ (product_overflows uv (whole k.1)) (λ x. step_overflows f (k.0, x))

    pair_overflows : (t : Summand) (f : Operator rationals) (u : Summand) → Overflows (pair_within l s t f u)
    unfolding pair_within
    pair_overflows t f u =
        bind_overflows (product_within l t.1 u.1) _ (product_overflows t.1 u.1)
        (λ x. bind_overflows (numbers_within l (numbers s t.0 u.0)) _ (numbers_overflow (numbers s t.0 u.0)) (λ ks. fold_overflows (contribute l x) (contribute_overflows x) f ks))

    row_overflows : (us : Terms) (f : Operator rationals) (t : Summand) → Overflows (row_within l s us f t)
    unfolding row_within
    row_overflows us f t = fold_overflows (pair_within l s t) (pair_overflows t) f us

    pub times_overflows : (f g : Operator rationals) → degrees_fit l (falling s.order f) (falling s.order g) ≡ true → Overflows (times_within l s f g)
    unfolding times_within
    times_overflows f g h =
        let all = fold_within (row_within l s (falling s.order g)) (empty_sum rationals plain_cmp) (falling s.order f) in
        subst (λ b. Overflows (cond b all (Err Degree))) (sym h) (fold_overflows (row_within l s (falling s.order g)) (row_overflows (falling s.order g)) (empty_sum rationals plain_cmp) (falling s.order f))

    pub product_collected : (ts us : Terms) → (fold_within (push_row l s us) [] ts >>= made) ≡ fold_within (row_within l s us) (empty_sum rationals plain_cmp) ts
    unfolding add_terms_within
    product_collected ts us = fold_through (push_row l s us) (row_within l s us) made (row_made us) [] ts

    adjoint_made : (out : Terms) (t : Summand) → (push_adjoint l s out t >>= made) ≡ (made out >>= λ f. adjoint_term_within l s f t)
    unfolding push_adjoint push_product adjoint_term_within
    adjoint_made out t = product_made (mul (sign_of rationals s t.0) t.1) out (numbers s (letter_part s t.0) (coordinate_part s t.0))

    pub adjoint_collected : (ts : Terms) → (fold_within (push_adjoint l s) [] ts >>= made) ≡ fold_within (adjoint_term_within l s) (empty_sum rationals plain_cmp) ts
    unfolding add_terms_within
    adjoint_collected ts = fold_through (push_adjoint l s) (adjoint_term_within l s) made adjoint_made [] ts
