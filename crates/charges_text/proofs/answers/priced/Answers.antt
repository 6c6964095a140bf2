use mathlib.Core.Path.{◌≡◌, refl, sym, ◌∙◌, ap, subst}
use lib.ListN.{take}
use Rattle.book.specs.Books.{Valid}
use Rattle.stored.specs.Loading.{Loaded}
use Rattle.stored.proofs.EitherForm.{either_valid}
use Rattle.charges.proofs.ChargeLaws.{tariff_allowed, tariff_few}
use Rattle.std.proofs.Common.{rules}
use Rattle.charges_text.specs.Reading.{readable, reading_of}
use Rattle.charges_text.specs.Promise.{output_for}
use Rattle.charges_text.proofs.LineLaws.{text_by_lem}
use Rattle.charges_text.proofs.answers.priced.Goals as goal

pub returns : goal.returns
unfolding output_for
returns c =
    let said = c.in_ok-said.said in
    let lengths = take said.count c.read.new.buffer in
    let book = c.in_ok-book.book in
    let e = c.in_ok-book.ensures in
    let valid : Valid book =
    subst (λ (x : Loaded). Valid x.book) (sym e) (either_valid c.args.bytes.now (sym (ap (λ (x : Loaded). x.answer) e))) in
    let verdict = c.in_ok-tariff.ensures.ground in
    let few = tariff_few book lengths said.rates (tariff_allowed book.n lengths said.rates (sym verdict)) valid in
    let text = text_by_lem lengths said.rates c.in_ok-tariff.tariff c.in_ok-tariff.ensures.given few book in
    let read : readable said.rates lengths ≡ reading_of c.args.text.now = search rules in
    text ∙ rw (← read, ← e, ← verdict) refl
