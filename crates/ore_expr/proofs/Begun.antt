-- Partial trees stand for just the tokens that begin a sentence.
--     Reached            these parts stand behind the tokens before them
--     turned_onto        a list turned round, and what follows
--     turned-cons        a list turned round, of one item and others
--     begun              the tokens of partial trees begin a sentence
--     stands_some        a token that is taken stands behind those before it
--     begins-moves       and so with a token that is taken
--     reached_first, reached-moves    no tokens reach the first parts, and a token that is taken the next ones
--     not_begun          no sentence begins with a token that isn't taken
--     is_outermost       no parenthesis is open
--     is_whole           a whole expression may end here
--     ends_sentence      there the tokens are a sentence
--     no_sentence        and nowhere else
--     same_expression    no tokens spell two expressions
use Rattle.std.proofs.Common.{◌≡◌, Bool, true, false, List, [], ◌∷◌, ◌++◌, reverse, sym, refl, ap, ◌∙◌, subst, append_assoc, append-nil, true≢false}
use Rattle.std.specs.declared.option.Option.{Option}
use Rattle.std.specs.declared.option.Option.TheVariants.{None, Some}
use mathlib.Core.List.{reverse_aux}
use Rattle.ore_expr.specs.Tokens.{Token, Number, Close}
use Rattle.ore_expr.specs.Grammar.{Expression, Single, Negated, Sum, Difference, Alone, Product, Factor, Bare, Power, Whole, Quotient, Variable, Group, expression_tokens, IsSentence, IsSentencePrefix}
use Rattle.ore_expr.proofs.PartialTrees.{Outer, outer, Place, WantsOperand, Ended, WantsDenominator, WantsExponent, WantsPower, Partial, partial, first, atom_of, factor_of, term_of, expression_of, whole_of, expression_before, factor_before, sum_before, product_before, place_before, outside_before, before, moves, where_some, run}
use Rattle.ore_expr.proofs.Moves.{whole_before, TakesToken, moves-before, behind, ended, ended-behind, run-expression, turned-expression}

-- ---- lists turned round

pub turned_onto : (ts more : List Token) → reverse ts ++ more ≡ reverse_aux ts more
turned_onto ts more = go ts [] more
  where
    go : (ts ks more : List Token) → reverse_aux ts ks ++ more ≡ reverse_aux ts (ks ++ more)
    go [] ks more = refl
    go (t ∷ ts) ks more = go ts (t ∷ ks) more

turned_append : (ts ks more : List Token) → reverse_aux (ts ++ ks) more ≡ reverse_aux ks (reverse_aux ts more)
turned_append [] ks more = refl
turned_append (t ∷ ts) ks more = turned_append ts ks (t ∷ more)

-- ---- what is left to come

abbrev missing : Place → List Token
missing WantsOperand = Number (49 ∷ []) ∷ []
missing (Ended x) = []
missing (WantsDenominator digits) = Number (49 ∷ []) ∷ []
missing (WantsExponent name) = Number (49 ∷ []) ∷ []
missing (WantsPower b) = Number (49 ∷ []) ∷ []

abbrev completed : Place → Factor
completed WantsOperand = Bare (Whole (49 ∷ []))
completed (Ended x) = factor_of x
completed (WantsDenominator digits) = Bare (Quotient digits (49 ∷ []))
completed (WantsExponent name) = Power (Variable name) (49 ∷ [])
completed (WantsPower b) = Power (atom_of b) (49 ∷ [])

completed-before : (d : Place) (others : List Token) → factor_before (completed d) others ≡ missing d ++ place_before d others
completed-before WantsOperand others = refl
completed-before (Ended x) others = refl
completed-before (WantsDenominator digits) others = refl
completed-before (WantsExponent name) others = refl
completed-before (WantsPower b) others = refl

abbrev closers : List Outer → List Token
closers [] = []
closers (c ∷ cs) = closers cs ++ Close ∷ []

abbrev closed : List Outer → Expression → Expression
closed [] e = e
closed (outer s p ∷ cs) e = closed cs (expression_of s (term_of p (Bare (Group e))))

closed-before : (cs : List Outer) (e : Expression) → expression_before (closed cs e) [] ≡ closers cs ++ expression_before e (outside_before cs)
closed-before [] e = refl
closed-before (outer s p ∷ cs) e =
    closed-before cs (expression_of s (term_of p (Bare (Group e))))
    ∙ ap (λ ts. closers cs ++ ts) (whole_before s p (Bare (Group e)) (outside_before cs))
    ∙ sym (append_assoc (closers cs) (Close ∷ []) (expression_before e (outside_before (outer s p ∷ cs))))

-- the whole tree, and the tokens that it takes, the last one first
abbrev tree : Partial → Expression
tree (partial cs s p d) = closed cs (expression_of s (term_of p (completed d)))

abbrev left : Partial → List Token
left (partial cs s p d) = closers cs ++ missing d

tree-before : (z : Partial) → expression_before (tree z) [] ≡ left z ++ before z
tree-before (partial cs s p d) =
    closed-before cs (expression_of s (term_of p (completed d)))
    ∙ ap
    (λ ts. closers cs ++ ts)
    (whole_before s p (completed d) (outside_before cs) ∙ completed-before d (product_before p (sum_before s (outside_before cs))))
    ∙ sym (append_assoc (closers cs) (missing d) (place_before d (product_before p (sum_before s (outside_before cs)))))

turned_whole : (e : Expression) → reverse_aux (expression_before e []) [] ≡ expression_tokens e
turned_whole e = turned-expression e [] [] ∙ append-nil (expression_tokens e)

pub begun : (z : Partial) → IsSentencePrefix (reverse (before z))
begun z = (
  reverse_aux (left z) [],
  (
    tree z,
    turned_onto (before z) (reverse_aux (left z) []) ∙ sym (turned_append (left z) (before z) []) ∙ ap (λ ts. reverse_aux ts []) (sym (tree-before z)) ∙ turned_whole (tree z),
  ),
)

-- ---- a token more

pub turned-cons : (t : Token) (ts : List Token) → reverse (t ∷ ts) ≡ reverse ts ++ t ∷ []
turned-cons t ts = sym (turned_onto ts (t ∷ []))

pub stands_some : (z w : Partial) (t : Token) → moves z t ≡ Some w → before w ≡ t ∷ before z
stands_some z w t e = subst (TakesToken z t) e (moves-before z t)

pub begins-moves : (z w : Partial) (t : Token) → moves z t ≡ Some w → IsSentencePrefix (reverse (before z) ++ t ∷ [])
begins-moves z w t e = subst IsSentencePrefix (ap reverse (stands_some z w t e) ∙ turned-cons t (before z)) (begun w)

abbrev pub Reached : Partial → Type 0
Reached z = (ts : List Token) → run first (reverse_aux (before z) ts) ≡ run z ts

pub reached_first : Reached first
reached_first ts = refl

pub reached-moves : (z w : Partial) (t : Token) → Reached z → moves z t ≡ Some w → Reached w
reached-moves z w t r e ts =
    ap (λ ks. run first (reverse_aux ks ts)) (stands_some z w t e)
    ∙ r (t ∷ ts)
    ∙ ap (where_some (λ u. run u ts)) e

run_whole : (e : Expression) → run first (expression_tokens e) ≡ Some (behind [] e)
run_whole e = ap (run first) (sym (append-nil (expression_tokens e))) ∙ run-expression e [] []

abbrev IsSomePartial : Option Partial → Type 0
IsSomePartial None = ⊥
IsSomePartial (Some z) = Unit {0}

pub not_begun : (z : Partial) (t : Token) → Reached z → moves z t ≡ None → ¬ IsSentencePrefix (reverse (before z) ++ t ∷ [])
not_begun z t r e (more, (x, q)) =
    subst
    IsSomePartial
    (sym (run_whole x)
    ∙ ap (run first) (sym q ∙ append_assoc (reverse (before z)) (t ∷ []) more ∙ turned_onto (before z) (t ∷ more))
    ∙ r (t ∷ more)
    ∙ ap (where_some (λ u. run u more)) e)
    tt

-- ---- the end

abbrev pub is_outermost : List Outer → Bool
is_outermost [] = true
is_outermost (c ∷ cs) = false

abbrev pub is_whole : Partial → Bool
is_whole (partial cs s p (Ended x)) = is_outermost cs
is_whole z = false

pub ends_sentence : (z : Partial) → is_whole z ≡ true → reverse (before z) ≡ expression_tokens (ended z)
ends_sentence (partial [] s p (Ended x)) e = ap (λ ts. reverse_aux ts []) (sym (whole_before s p (factor_of x) [])) ∙ turned_whole (whole_of s p x)
ends_sentence (partial (c ∷ cs) s p (Ended x)) e = absurd (true≢false (sym e))
ends_sentence (partial cs s p d) e = absurd (true≢false (sym e))

behind-whole : (e : Expression) → is_whole (behind [] e) ≡ true
behind-whole (Single (Alone f)) = refl
behind-whole (Single (Product t f)) = refl
behind-whole (Negated (Alone f)) = refl
behind-whole (Negated (Product t f)) = refl
behind-whole (Sum e (Alone f)) = refl
behind-whole (Sum e (Product t f)) = refl
behind-whole (Difference e (Alone f)) = refl
behind-whole (Difference e (Product t f)) = refl

abbrev where_run : Option Partial → Partial
where_run None = first
where_run (Some z) = z

reached_sentence : (z : Partial) (e : Expression) → Reached z → reverse (before z) ≡ expression_tokens e → z ≡ behind [] e
reached_sentence z e r q = ap where_run (sym (r []) ∙ ap (run first) q ∙ run_whole e)

pub no_sentence : (z : Partial) → Reached z → is_whole z ≡ false → ¬ IsSentence (reverse (before z))
no_sentence z r e (x, q) = true≢false (sym (behind-whole x) ∙ ap is_whole (sym (reached_sentence z x r q)) ∙ e)

pub same_expression : (e f : Expression) → expression_tokens e ≡ expression_tokens f → e ≡ f
same_expression e f q = sym (ended-behind [] e) ∙ ap (λ o. ended (where_run o)) (sym (run_whole e) ∙ ap (run first) q ∙ run_whole f) ∙ ended-behind [] f
