use Rattle.std.proofs.Common.{◌∷◌, [], ◌++◌, map, refl, sym, ap, ◌∙◌, true≢false}
use Rattle.ore_rows.specs.Stored.{sums_of}
use Rattle.std.proofs.lemmas.List.{map-append, append-nil}
use Rattle.ore_groebner.proofs.ProgressParts.{unless_zero-zero, unless_zero-row, more_syzygies}
use Rattle.ore_groebner.proofs.progress.with_syzygy.Goals as goal

pub returns-then-is_zero-clause-syzygies : goal.returns-then-is_zero-clause-syzygies
returns-then-is_zero-clause-syzygies c = sym (ap (λ rs. map sums_of c.args.progress.syzygies.items ++ rs) (unless_zero-zero c.args.sig.now.order c.args.cofactor (c.if-is_zero.ensures.0 refl)) ∙ append-nil _)

pub returns-clause-syzygies : goal.returns-clause-syzygies
returns-clause-syzygies c =
    ap (map sums_of) c.in_ok-push.ensures.items
    ∙ map-append sums_of c.args.progress.syzygies.items (c.args.cofactor ∷ [])
    ∙ sym (ap (λ rs. map sums_of c.args.progress.syzygies.items ++ rs) (unless_zero-row c.args.sig.now.order c.args.cofactor (λ z. true≢false (sym (c.if-is_zero.ensures.1 z)))))

pub returns-clause-fits : goal.returns-clause-fits
returns-clause-fits c = more_syzygies c.args.sig.now c.args.progress _ c.args.cofactor c.requires.fits refl refl refl refl c.in_ok-push.ensures.items c.requires.width c.requires.of

pub returns-then-is_zero-clause-origins : goal.returns-then-is_zero-clause-origins
returns-then-is_zero-clause-origins c = sym (ap (λ rs. c.args.progress.origins.items ++ map (λ _. c.args.origin) rs) (unless_zero-zero c.args.sig.now.order c.args.cofactor (c.if-is_zero.ensures.0 refl)) ∙ append-nil _)

pub returns-clause-origins : goal.returns-clause-origins
returns-clause-origins c =
    c.in_ok-push-2.ensures.items
    ∙ sym (ap (λ rs. c.args.progress.origins.items ++ map (λ _. c.args.origin) rs) (unless_zero-row c.args.sig.now.order c.args.cofactor (λ z. true≢false (sym (c.if-is_zero.ensures.1 z)))))
