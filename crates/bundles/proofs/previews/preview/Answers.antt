use Rattle.std.proofs.Common.{ℕ, ◌≡◌, sym, ◌∙◌, subst, None, Ok, arith}
use Rattle.std.proofs.lemmas.Result.{err_from_is_err_and}
use Rattle.bundles.specs.Previews.{PreviewPromise}
use Rattle.bundles.proofs.PreviewLaws.{refused_by_size}
use Rattle.bundles.proofs.Trials.{within, trial_goes_on, stopped, all_granted}
use Rattle.bundles.proofs.previews.preview.Goals as goal

pub returns-in_err-size_verdict : goal.returns-in_err-size_verdict
returns-in_err-size_verdict c =
    let b = c.args.bundle.now in
    let p = err_from_is_err_and c.from_residual.result c.from_residual.ensures.1 in
    rw (p.1, p.2) (refused_by_size c.args.book.now b.count b.lines _
    (sym c.size_verdict.ensures ∙ c.in_err-size_verdict.was))

pub offset_bounds-bundle-i : goal.offset_bounds-bundle-i
offset_bounds-bundle-i c = omega (arith, within _ _ _ _ _ _ c.loop-i.invariant)

pub bounds-bundle-i : goal.bounds-bundle-i
bounds-bundle-i c = omega (arith, within _ _ _ _ _ _ c.loop-i.invariant)

pub offset_bounds-serials-i : goal.offset_bounds-serials-i
offset_bounds-serials-i c = omega (arith, within _ _ _ _ _ _ c.loop-i.invariant)

pub bounds-serials-i : goal.bounds-serials-i
bounds-serials-i c = omega (arith, within _ _ _ _ _ _ c.loop-i.invariant)

pub overflow_cast-number : goal.overflow_cast-number
overflow_cast-number c = omega (arith, within _ _ _ _ _ _ c.loop-i.invariant)

pub overflow_cast-result : goal.overflow_cast-result
overflow_cast-result c = omega (arith, within _ _ _ _ _ _ c.loop-i.invariant)

pub returns-in-Err : goal.returns-in-Err
returns-in-Err c =
    let b = c.args.bundle.now in
    stopped c.args.book.now b.count b.lines c.loop-i.i c.loop-i.copy c.loop-i.serials c.loop-i.invariant c.loop-i-test.true
    _ c.grant.ensures.promise c.in-Err.refusal c.in-Err.is

pub loop-i-preserved : goal.loop-i-preserved
loop-i-preserved c =
    let b = c.args.bundle.now in
    trial_goes_on c.args.book.now b.count b.lines c.loop-i.i c.loop-i.copy c.loop-i.serials c.loop-i.invariant c.loop-i-test.true
    _ c.grant.ensures.promise c.in-Ok.serial c.in-Ok.is

pub returns : goal.returns
returns c =
    let b = c.args.bundle.now in
    let e : c.loop-i.i ≡ b.count = omega arith in
    subst
    (λ (k : ℕ). PreviewPromise c.args.book.now b.count b.lines (Ok (record { stopped = None; count = k; serials = c.loop-i.serials })))
    e
    (all_granted c.args.book.now b.count b.lines c.loop-i.i c.loop-i.copy c.loop-i.serials c.loop-i.invariant e)
