-- What loops over the parts of a certificate show of all of them.
--     all_more         the items before a place, and the item at it
--     more_within      the same, of whatever stands at the place
--     all_done         all items of a list
--     storable_sum     an operator whose falling terms are in range
use Rattle.std.proofs.Common.{◌≡◌, ℕ, ◌+◌, ◌<◌, ◌≤◌, List, length, get_or, take, Some, sym, subst}
use Rattle.std.specs.Prelude.{slice_get}
use Rattle.std.specs.List.{All}
use Rattle.std.proofs.lemmas.List.{take_all}
use Rattle.std.proofs.lemmas.List.Elements.{All-more, recursion_from_All}
use Rattle.std.proofs.lemmas.Option.{slice_get_within, get_or_from_slice_get, slice_get-get_or}
use Rattle.ore_rational.specs.Field.{rationals}
use Rattle.ore_monomial.specs.declared.order.Order.{Order}
use Rattle.ore_monomial.specs.LetterRule.{Operator}
use Rattle.ore_ring.specs.Terms.{falling}
use Rattle.ore_text.specs.Printable.{IsStorableTerm, IsStorable}
use Rattle.ore_text.proofs.PrintableTerms.{of_falling, in_terms}

pub all_more : {X : Type 0} (P : X → Type 0) (xs : List X) (k : ℕ) (x : X) → slice_get xs k ≡ Some x → P x → All P (take k xs) → All P (take (k + 1) xs)
all_more P xs k x at h all = All-more P xs k x (slice_get_within xs k x at) all (subst P (sym (get_or_from_slice_get xs k x x at)) h)

pub all_done : {X : Type 0} (P : X → Type 0) (xs : List X) (k : ℕ) → length xs ≤ k → All P (take k xs) → All P xs
all_done P xs k past h = subst (All P) (take_all k xs past) h

pub storable_sum : (o : Order) (f : Operator rationals) → All IsStorableTerm (falling o f) → IsStorable f
storable_sum o f h = in_terms IsStorableTerm f (of_falling IsStorableTerm o f (recursion_from_All IsStorableTerm (falling o f) h))

-- the same, where what is known of the item at a place is known of whatever stands there
pub more_within : {X : Type 0} (P : X → Type 0) (xs : List X) (k : ℕ) → k < length xs → ((x : X) → slice_get xs k ≡ Some x → P x) → All P (take k xs) → All P (take (k + 1) xs)
more_within P xs k within h all i d = All-more P xs k d within all (h (get_or xs k d) (slice_get-get_or xs k d within)) i d
