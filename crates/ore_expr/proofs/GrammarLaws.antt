-- The automaton reads just the grammar, with the faults of the table.
--     Reading                what reading some lexemes behind some tokens shows
--     reading                and shows it behind all partial trees that are reached
--     parse_found            a text that is read is an expression, with these instructions
--     parse_fault            a fault that is found is that of the table
--     expression-parse       an expression is read
--     fault-parse            the fault of the table is found
--     ValuesAre              the instructions of an expression have its value
--     reads_expressions      what is read is an expression, with the value of its instructions; and each expression is read
--     finds_faults           a fault that is found is that of the table, and the fault of the table is found
use Rattle.std.proofs.Common.{◌≡◌, ℕ, Bool, true, false, cond, List, [], ◌∷◌, ◌++◌, length, reverse, sym, refl, ap, ◌∙◌, subst, append_assoc, append-nil, inl, inr, IsNone, true≢false}
use Rattle.std.specs.declared.option.Option.{Option}
use Rattle.std.specs.declared.option.Option.TheVariants.{None, Some}
use Rattle.std.specs.declared.result.Result.{Result}
use Rattle.std.specs.declared.result.Result.TheVariants.{Ok, Err}
use Rattle.std.specs.Option.{unwrap_or}
use Rattle.ore_algebra.specs.Limits.{Limits}
use Rattle.ore_monomial.specs.Signature.{Signature}
use Rattle.ore_expr.specs.declared.fault.TextFault.{TextFault}
use Rattle.ore_expr.specs.declared.fault.TextFault.TheVariants.{Syntax}
use Rattle.ore_expr.specs.declared.instruction.Instruction.{Instruction}
use Rattle.ore_expr.specs.Tokens.{Token, Lexeme, lexemes, tokens_of}
use Rattle.ore_expr.specs.Grammar.{Expression, expression_tokens}
use Rattle.ore_expr.specs.Faults.{own_fault, IsSoundAt, IsSound, IsFirstFault, IsExpression, IsFault}
use Rattle.ore_expr.specs.Values.{expression_value}
use Rattle.ore_expr.specs.Evaluation.{expression_code, value_of}
use Rattle.ore_expr.specs.Parsing.{takes_all, ends, parse}
use Rattle.ore_algebra.specs.Results.{◌>>=◌}
use Rattle.ore_expr.specs.Laws.{ReadsExpressions, FindsFaults}
use Rattle.ore_expr.proofs.PartialTrees.{Partial, first, before, moves}
use Rattle.ore_expr.proofs.Moves.{ended}
use Rattle.ore_expr.proofs.States.{state_of, outcome, takes-state_of, ends-state_of}
use Rattle.ore_expr.proofs.Begun.{turned_onto, Reached, reached_first, reached-moves, begins-moves, stands_some, not_begun, is_whole, ends_sentence, no_sentence, same_expression}

-- the next token comes to those before
shifted : (ks : List Token) (t : Token) (ts : List Token) → reverse (t ∷ ks) ++ ts ≡ reverse ks ++ t ∷ ts
shifted ks t ts = turned_onto (t ∷ ks) ts ∙ sym (turned_onto ks (t ∷ ts))

module _ (names : List (List ℕ)) (end : ℕ) where
  -- of the tokens ks, the last one first, and the lexemes that follow
  abbrev Reading : List Token → List Lexeme → Result (List Instruction) TextFault → Type 0
  Reading ks xs (Ok p) = (e : Expression) × (reverse ks ++ tokens_of xs ≡ expression_tokens e) × IsSound names ks xs × (p ≡ expression_code names e)
  Reading ks xs (Err f) = IsFirstFault names end ks xs f

  abbrev read_from : Partial → List Lexeme → Result (List Instruction) TextFault
  read_from z xs = takes_all names (state_of names z) xs >>= λ s. ends end s

  reading_end : (z : Partial) → Reached z → Reading (before z) [] (ends end (state_of names z))
  reading_end z r = subst (Reading (before z) []) (sym (ends-state_of names end z)) (go (is_whole z) refl)
    where
      go : (b : Bool) → is_whole z ≡ b → Reading (before z) [] (cond b (Ok (expression_code names (ended z))) (Err (Syntax end)))
      go true e = (ended z, append-nil (reverse (before z)) ∙ ends_sentence z e, tt, refl)
      go false e = (no_sentence z r e, refl)

  reading_cons : (ks : List Token) (x : Lexeme) (xs : List Lexeme) (r : Result (List Instruction) TextFault) → IsSoundAt names ks x → Reading (x.token ∷ ks) xs r → Reading ks (x ∷ xs) r
  reading_cons ks x xs (Ok p) h (e, q, s, c) = (e, sym (shifted ks x.token (tokens_of xs)) ∙ q, (h.own, s), c)
  reading_cons ks x xs (Err f) h g = inr (h, g)

  reading_step : (x : Lexeme) (xs : List Lexeme) (z : Partial) → Reached z → ((w : Partial) → Reached w → Reading (before w) xs (read_from w xs)) →
      (m : Option Partial) → moves z x.token ≡ m → (o : Option TextFault) → own_fault names (before z) x.place x.token ≡ o →
      Reading (before z) (x ∷ xs) ((outcome names x.place m o >>= λ t. takes_all names t xs) >>= λ s. ends end s)
  reading_step x xs z r ih None e o u = inl (inl (not_begun z x.token r e, refl))
  reading_step x xs z r ih (Some w) e None u =
      reading_cons
      (before z)
      x
      xs
      (read_from w xs)
      (record { begins = begins-moves z w x.token e; own = u })
      (subst (λ ks. Reading ks xs (read_from w xs)) (stands_some z w x.token e) (ih w (reached-moves z w x.token r e)))
  reading_step x xs z r ih (Some w) e (Some f) u = inl (inr (begins-moves z w x.token e, u))

  reading : (xs : List Lexeme) (z : Partial) → Reached z → Reading (before z) xs (read_from z xs)
  reading [] z r = reading_end z r
  reading (x ∷ xs) z r =
      subst
      (λ q. Reading (before z) (x ∷ xs) ((q >>= λ t. takes_all names t xs) >>= λ s. ends end s))
      (sym (takes-state_of names z x.place x.token))
      (reading_step x xs z r (reading xs) (moves z x.token) refl (own_fault names (before z) x.place x.token) refl)

  -- ---- one answer

  no_fault : (o : Option TextFault) (f : TextFault) → o ≡ None → o ≡ Some f → ⊥
  no_fault o f e g = true≢false (subst IsNone (sym e ∙ g) refl)

  sound_sentence : (xs : List Lexeme) (ks : List Token) (f : TextFault) (e : Expression) → IsFirstFault names end ks xs f → reverse ks ++ tokens_of xs ≡ expression_tokens e → IsSound names ks xs → ⊥
  sound_sentence [] ks f e (n, g) q s = n (e, sym (append-nil (reverse ks)) ∙ q)
  sound_sentence (x ∷ xs) ks f e (inl (inl (n, g))) q s = n (tokens_of xs, (e, append_assoc (reverse ks) (x.token ∷ []) (tokens_of xs) ∙ q))
  sound_sentence (x ∷ xs) ks f e (inl (inr (b, g))) q s = no_fault (own_fault names ks x.place x.token) f s.0 g
  sound_sentence (x ∷ xs) ks f e (inr (h, g)) q s = sound_sentence xs (x.token ∷ ks) f e g (shifted ks x.token (tokens_of xs) ∙ q) s.1

  one_fault : (xs : List Lexeme) (ks : List Token) (f g : TextFault) → IsFirstFault names end ks xs f → IsFirstFault names end ks xs g → f ≡ g
  one_fault [] ks f g (n, p) (m, q) = p ∙ sym q
  one_fault (x ∷ xs) ks f g (inl (inl (n, p))) (inl (inl (m, q))) = p ∙ sym q
  one_fault (x ∷ xs) ks f g (inl (inl (n, p))) (inl (inr (b, q))) = absurd (n b)
  one_fault (x ∷ xs) ks f g (inl (inl (n, p))) (inr (h, q)) = absurd (n h.begins)
  one_fault (x ∷ xs) ks f g (inl (inr (b, p))) (inl (inl (m, q))) = absurd (m b)
  one_fault (x ∷ xs) ks f g (inl (inr (b, p))) (inl (inr (c, q))) = ap (λ o. unwrap_or o f) (sym p ∙ q)
  one_fault (x ∷ xs) ks f g (inl (inr (b, p))) (inr (h, q)) = absurd (no_fault (own_fault names ks x.place x.token) f h.own p)
  one_fault (x ∷ xs) ks f g (inr (h, p)) (inl (inl (m, q))) = absurd (m h.begins)
  one_fault (x ∷ xs) ks f g (inr (h, p)) (inl (inr (c, q))) = absurd (no_fault (own_fault names ks x.place x.token) g h.own q)
  one_fault (x ∷ xs) ks f g (inr (h, p)) (inr (j, q)) = one_fault xs (x.token ∷ ks) f g p q

-- ---- texts

module _ (names : List (List ℕ)) (text : List ℕ) where
  -- what an answer shows of the whole text
  abbrev Shown : Result (List Instruction) TextFault → Type 0
  Shown = Reading names (length text) [] (lexemes text)

  shown : (r : Result (List Instruction) TextFault) → parse names text ≡ r → Shown r
  shown r e = subst Shown e (reading names (length text) (lexemes text) first reached_first)

  pub parse_found : (p : List Instruction) → parse names text ≡ Ok p → (e : Expression) × IsExpression names text e × (p ≡ expression_code names e)
  parse_found p e = let h : Shown (Ok p) = shown (Ok p) e in (h.0, record { spelled = h.1; sound = h.2 }, h.3)

  pub parse_fault : (f : TextFault) → parse names text ≡ Err f → IsFault names text f
  parse_fault f e = shown (Err f) e

  pub expression-parse : (e : Expression) → IsExpression names text e → parse names text ≡ Ok (expression_code names e)
  expression-parse e h = go (parse names text) refl
    where
      go : (r : Result (List Instruction) TextFault) → parse names text ≡ r → r ≡ Ok (expression_code names e)
      go (Ok p) q = let k = parse_found p q in ap Ok (k.2 ∙ ap (expression_code names) (same_expression k.0 e (sym k.1.spelled ∙ h.spelled)))
      go (Err f) q = absurd (sound_sentence names (length text) (lexemes text) [] f e (parse_fault f q) h.spelled h.sound)

  pub fault-parse : (f : TextFault) → IsFault names text f → parse names text ≡ Err f
  fault-parse f h = go (parse names text) refl
    where
      go : (r : Result (List Instruction) TextFault) → parse names text ≡ r → r ≡ Err f
      go (Ok p) q = let k = parse_found p q in absurd (sound_sentence names (length text) (lexemes text) [] f k.0 h k.1.spelled k.1.sound)
      go (Err g) q = ap Err (one_fault names (length text) (lexemes text) [] g f (parse_fault g q) h)

-- ---- the laws

abbrev pub ValuesAre : Type 0
ValuesAre = (l : Limits) (s : Signature) (names : List (List ℕ)) (e : Expression) → value_of l s (expression_code names e) ≡ expression_value l s names e

pub reads_expressions : ValuesAre → ReadsExpressions
reads_expressions values =
    record {
      found = λ names text p e. let h = parse_found names text p e in (h.0, h.1, λ l s. ap (value_of l s) h.2 ∙ values l s names h.0);
      only = λ names text e h. (expression_code names e, expression-parse names text e h, λ l s. values l s names e);
    }

pub finds_faults : FindsFaults
finds_faults = record { found = parse_fault; only = fault-parse }
