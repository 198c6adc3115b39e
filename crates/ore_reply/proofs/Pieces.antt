-- Known bytes that are read or written a piece at a time.
--     prepend_known-prepend_known   two pieces before the known bytes are one
--     append_known-append_known     two pieces after the known bytes are one
--     append_known-take             the front of a text and a piece of its rest are a longer front
use Rattle.std.proofs.Common.{◌≡◌, ℕ, ◌+◌, ◌-◌, List, ◌++◌, length, take, drop, refl, ap, sym, ◌∙◌, append_assoc}
use Rattle.std.specs.declared.option.Option.{Option}
use Rattle.std.specs.declared.option.Option.TheVariants.{None, Some}
use Rattle.std.proofs.lemmas.List.{length-drop}
use Rattle.std.proofs.Math.Seq.{take-add, take-length}
use Rattle.std.specs.Io.KnownBytes.{prepend_known, append_known}

pub prepend_known-prepend_known : (a b : List ℕ) (known : Option (List ℕ)) → prepend_known a (prepend_known b known) ≡ prepend_known (a ++ b) known
prepend_known-prepend_known a b None = refl
prepend_known-prepend_known a b (Some xs) = ap Some (sym (append_assoc a b xs))

pub append_known-append_known : (a b : List ℕ) (known : Option (List ℕ)) → append_known (append_known known a) b ≡ append_known known (a ++ b)
append_known-append_known a b None = refl
append_known-append_known a b (Some xs) = ap Some (append_assoc xs a b)

pub append_known-take : (known : Option (List ℕ)) (text : List ℕ) (done count : ℕ) →
    append_known (append_known known (take done text)) (take count (take (length text - done) (drop done text)))
    ≡ append_known known (take (done + count) text)
append_known-take known text done count =
    let rest : take (length text - done) (drop done text) ≡ drop done text =
    ap (λ n. take n (drop done text)) (sym (length-drop done text)) ∙ take-length (drop done text) in
    append_known-append_known (take done text) (take count (take (length text - done) (drop done text))) known
    ∙ ap (λ piece. append_known known (take done text ++ take count piece)) rest
    ∙ ap (append_known known) (sym (take-add done count text))
