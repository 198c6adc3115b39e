-- The listed pairs of a state.
--     latest                   the entries before and some more, the latest first
--     listed_latest, latest_same    they have the pairs of both
--     entries_of_push, lawful_push    one more entry that is lawful by those before it
--     is_once                  no pair of a lawful list is listed twice
use Rattle.std.proofs.Common.{◌≡◌, ℕ, Bool, true, false, ◌&&◌, ◌||◌, nat_eq, List, [], ◌∷◌, ◌++◌, refl, sym, ◌∙◌}
use Rattle.ore_algebra.specs.Domain.{Domain}
use Rattle.ore_monomial.specs.Signature.{Signature}
use Rattle.ore_monomial.specs.Term.{Term}
use Rattle.ore_monomial.specs.declared.order.Order.{Order}
use Rattle.ore_rows.specs.Rows.{Row}
use Rattle.ore_pairs.specs.PairList.{DealtPair, Pair, Skip, first, second, pairs_of, IsLawfulEntry, AreLawful, AreEntriesOf}
use Rattle.ore_pairs.specs.PairRule.{is_listed, HaveSamePairs}
use Rattle.ore_pairs.proofs.PairRuleLaws.{treat_from}
use Rattle.ore_groebner.specs.RunLaws.{AreListedOnce}

module _ {K : Domain} where
  abbrev pub latest : List (DealtPair K) → List (DealtPair K) → List (DealtPair K)
  latest before [] = before
  latest before (e ∷ es) = latest (e ∷ before) es

  listed_latest : (i j : ℕ) (before es : List (DealtPair K)) → is_listed i j (pairs_of (latest before es)) ≡ (is_listed i j (pairs_of es) || is_listed i j (pairs_of before))
  unfolding is_listed
  listed_latest i j before [] = refl
  listed_latest i j before (e ∷ es) = listed_latest i j (e ∷ before) es ∙ moved (is_listed i j (pairs_of es)) (nat_eq i (first e) && nat_eq j (second e)) (is_listed i j (pairs_of before))
    where
      moved : (a b c : Bool) → (a || (b || c)) ≡ ((b || a) || c)
      moved true true c = refl
      moved true false c = refl
      moved false true c = refl
      moved false false c = refl

  pub latest_same : (es : List (DealtPair K)) → HaveSamePairs (pairs_of es) (pairs_of (latest [] es))
  unfolding is_listed
  latest_same es i j = sym (listed_latest i j [] es ∙ nothing_more (is_listed i j (pairs_of es)))
    where
      nothing_more : (a : Bool) → (a || false) ≡ a
      nothing_more true = refl
      nothing_more false = refl

module _ (K : Domain) where
  pub entries_of_push : (s : Signature) (es : List (DealtPair K)) (e : DealtPair K) → AreEntriesOf K s es → AreEntriesOf K s (e ∷ []) → AreEntriesOf K s (es ++ e ∷ [])
  entries_of_push s [] e h k = k
  entries_of_push s (Pair i j steps ∷ es) e h k = (h.0, entries_of_push s es e h.1 k)
  entries_of_push s (Skip i j via ∷ es) e h k = entries_of_push s es e h k

module _ (K : Domain) (s : Signature) (o : Order) (n : ℕ) (rows : List (Row K)) (leads : List Term) where
  pub lawful_push : (before es : List (DealtPair K)) (e : DealtPair K) → AreLawful K s o n rows leads before es → IsLawfulEntry K s o n rows leads (latest before es) e → AreLawful K s o n rows leads before (es ++ e ∷ [])
  lawful_push before [] e h k = (k, tt)
  lawful_push before (x ∷ es) e h k = (h.0, lawful_push (x ∷ before) es e h.1 k)

  pub is_once : (before es : List (DealtPair K)) → AreLawful K s o n rows leads before es → AreListedOnce before es
  is_once before [] h = tt
  is_once before (Pair i j steps ∷ es) h = ((treat_from leads (pairs_of before) i j h.0.0).unlisted, is_once (Pair i j steps ∷ before) es h.1)
  is_once before (Skip i j via ∷ es) h = ((treat_from leads (pairs_of before) i j h.0.0).unlisted, is_once (Skip i j via ∷ before) es h.1)
