-- Reading a text byte by byte is reading its tokens.
--     rest-skipped, rest-space, rest-token      what a byte does that is passed over, that is a space, that begins a token
--     front-slice                               the text from a place on
--     rest-taken, rest-faulty                   the token is taken, or has a fault
--     parse-zero                                the text `0` is the number 0, and so it is behind a space
--     parse-ends                                what is left to do behind the last byte
--     parse-fault                               a fault of the rest is that of the text
use Rattle.std.proofs.Common.{◌≡◌, ◌≢◌, ◌≤◌, ◌⊎◌, inl, inr, ℕ, zero, suc, ◌+◌, ◌-◌, ◌<◌, true, false, nat_eq, if◌then◌else◌, List, [], ◌∷◌, length, take, drop, get_or, Ok, Err, pos, refl, sym, ap, subst, ◌∙◌, arith, add-one, drop-cons}
use Rattle.std.specs.declared.result.Result.{Result}
use Rattle.std.proofs.lemmas.List.{drop_all, take_all, length-drop}
use Rattle.std.proofs.lemmas.Bool.Decides.{Decides-eqb, nat_tests}
use Rattle.ore_algebra.proofs.ResultLaws.{refused_on}
use Rattle.ore_expr.specs.declared.fault.TextFault.{TextFault}
use Rattle.ore_expr.specs.declared.fault.TextFault.TheVariants as fault
use Rattle.ore_rational.specs.Fraction.{whole}
use Rattle.ore_expr.specs.declared.instruction.Instruction.TheVariants as code
use Rattle.ore_expr.specs.Tokens.{Token, token_at, more_bytes, lexemes_from, lexemes}
use Rattle.ore_expr.specs.Parsing.{State, start, takes_token, takes_all, ends, parse}
use Rattle.ore_algebra.specs.Results.{◌>>=◌}
use Rattle.ore_expr.specs.Reading.{fault_in_text, FaultReads}
use Rattle.ore_expr.specs.ReadStep.{rest_read}

lexemes-skipped : (k place b : ℕ) (bs : List ℕ) → lexemes_from (suc k) place (b ∷ bs) ≡ lexemes_from k (suc place) bs
unfolding lexemes_from
lexemes-skipped k place b bs = refl

lexemes-none : (k place : ℕ) → lexemes_from k place [] ≡ []
unfolding lexemes_from
lexemes-none k place = refl

lexemes-space : (place b : ℕ) (bs : List ℕ) → nat_eq b 32 ≡ true → lexemes_from 0 place (b ∷ bs) ≡ lexemes_from 0 (suc place) bs
unfolding lexemes_from
lexemes-space place b bs e =
    ap (λ t. if t then lexemes_from 0 (suc place) bs else (record { place = place; token = token_at b bs } ∷ lexemes_from (more_bytes (token_at b bs)) (suc place) bs)) e

lexemes-token : (place b : ℕ) (bs : List ℕ) → nat_eq b 32 ≡ false → lexemes_from 0 place (b ∷ bs) ≡ record { place = place; token = token_at b bs } ∷ lexemes_from (more_bytes (token_at b bs)) (suc place) bs
unfolding lexemes_from
lexemes-token place b bs e =
    ap (λ t. if t then lexemes_from 0 (suc place) bs else (record { place = place; token = token_at b bs } ∷ lexemes_from (more_bytes (token_at b bs)) (suc place) bs)) e

other : (a b : ℕ) → a ≢ b → nat_eq a b ≡ false
other a b differs = grind (arith, nat_tests)

module _ (names : List (List ℕ)) (text : List ℕ) (place : ℕ) (within : place < length text) where
  front : drop place text ≡ get_or text place 0 ∷ drop (suc place) text
  front = drop-cons text place 0 within

  -- the text from a place on, as a slice gives it
  pub front-slice : take (length text - place) (drop place text) ≡ get_or text place 0 ∷ drop (suc place) text
  front-slice = take_all (length text - place) (drop place text) (simp length-drop (omega arith)) ∙ front

  -- a byte is passed over
  pub rest-skipped : (s : State) (k : ℕ) → 0 < k → rest_read names text s k place ≡ rest_read names text s (k - 1) (place + 1)
  rest-skipped s zero some = absurd (omega arith)
  rest-skipped s (suc k) some =
      let less : suc k - 1 ≡ k = omega arith in
      rw (front, lexemes-skipped k place (get_or text place 0) (drop (suc place) text), add-one place, less) refl

  -- a space
  pub rest-space : (s : State) (k : ℕ) → k ≤ 0 → get_or text place 0 ≡ 32 → rest_read names text s k place ≡ rest_read names text s 0 (place + 1)
  rest-space s (suc k) none e = absurd (omega arith)
  rest-space s zero none e = rw (front, lexemes-space place (get_or text place 0) (drop (suc place) text) ((Decides-eqb (get_or text place 0) 32).1 e), add-one place) refl

  module _ (s : State) (token : Token) (k : ℕ) (none : k ≤ 0) (begins : get_or text place 0 ≢ 32) (is : token ≡ token_at (get_or text place 0) (drop (suc place) text)) where
    rest-token : rest_read names text s k place ≡ (takes_token names s place token >>= λ t. rest_read names text t (more_bytes token) (place + 1))
    rest-token = by k none
      where
        by : (k : ℕ) → k ≤ 0 → rest_read names text s k place ≡ (takes_token names s place token >>= λ t. rest_read names text t (more_bytes token) (place + 1))
        by (suc k) none = absurd (omega arith)
        by zero none = rw (front, lexemes-token place (get_or text place 0) (drop (suc place) text) (other (get_or text place 0) 32 begins), add-one place, is) refl

    -- a token is taken
    pub rest-taken : (t : State) (more : ℕ) → takes_token names s place token ≡ Ok t → more ≡ more_bytes token → rest_read names text s k place ≡ rest_read names text t more (place + 1)
    rest-taken t more taken e =
        rest-token ∙ ap (λ r. r >>= λ t. rest_read names text t (more_bytes token) (place + 1)) taken ∙ ap (λ n. rest_read names text t n (place + 1)) (sym e)

    -- a token has a fault
    pub rest-faulty : (f : TextFault) → FaultReads f (takes_token names s place token) → FaultReads f (rest_read names text s k place)
    rest-faulty f faulty = subst (FaultReads f) (sym rest-token) (refused_on (Unit {0}) (fault_in_text f) _ (λ t. rest_read names text t (more_bytes token) (place + 1)) faulty)

pub parse-zero : (names : List (List ℕ)) (text : List ℕ) → (text ≡ 48 ∷ []) ⊎ (text ≡ 32 ∷ 48 ∷ []) → parse names text ≡ Ok (code.Constant (whole (pos 0)) ∷ [])
unfolding lexemes_from
parse-zero names text (inl alone) = ap (parse names) alone
parse-zero names text (inr spaced) = ap (parse names) spaced

module _ (names : List (List ℕ)) (text : List ℕ) where
  pub parse-ends : (s : State) (skipped place : ℕ) → place ≡ length text → rest_read names text s skipped place ≡ takes_all names start (lexemes text) → parse names text ≡ ends (length text) s
  parse-ends s skipped place end read =
      let none : drop place text ≡ [] = drop_all place text (omega arith) in
      let rest : rest_read names text s skipped place ≡ Ok s = rw (none, lexemes-none skipped place) refl in
      ap (λ r. r >>= ends (length text)) (sym read ∙ rest)

  pub parse-fault : (s : State) (skipped place : ℕ) (f : TextFault) → rest_read names text s skipped place ≡ takes_all names start (lexemes text) → FaultReads f (rest_read names text s skipped place) → FaultReads f (parse names text)
  parse-fault s skipped place f read faulty = refused_on (Unit {0}) (fault_in_text f) (takes_all names start (lexemes text)) (ends (length text)) (subst (FaultReads f) read faulty)
