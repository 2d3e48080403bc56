use Rattle.std.proofs.Common.{arith}
use Rattle.std.proofs.lemmas.Result.{err_from_is_err_and}
use Rattle.entry_codec.specs.Reading.{GivesAll, entry_at}
use Rattle.entry_codec.proofs.Entries.{is_found, is_only, is_none, none_has, read_after}
use Rattle.entry_codec.proofs.Refusals.{is_first}
use Rattle.entry_codec.proofs.reading.read.Goals as goal

pub returns-in_err-pass_all-clause-only : goal.returns-in_err-pass_all-clause-only
returns-in_err-pass_all-clause-only c = λ entry has e. absurd (none_has c.args.body.now c.in_err-pass_all.field-0.0.at c.in_err-pass_all.ensures entry has e)

pub returns-in_err-pass_all-clause-none : goal.returns-in_err-pass_all-clause-none
returns-in_err-pass_all-clause-none c =
    let p = err_from_is_err_and c.from_residual.result c.from_residual.ensures.1 in
    rw (p.1, p.2) (none_has c.args.body.now c.in_err-pass_all.field-0.0.at c.in_err-pass_all.ensures)

pub returns-clause-place : goal.returns-clause-place
returns-clause-place c = (read_after c.args.body.now c.new.result c.read_entry.new.fields c.read_entry.result c.new.ensures.at c.new.ensures.left c.in_ok-pass_all.ensures c.read_entry.ensures).0

pub returns-clause-found : goal.returns-clause-found
returns-clause-found c =
    let r = read_after c.args.body.now c.new.result c.read_entry.new.fields c.read_entry.result c.new.ensures.at c.new.ensures.left c.in_ok-pass_all.ensures c.read_entry.ensures in
    is_found c.args.body.now c.read_entry.result (λ i. omega (arith, c.type_inv.body i)) r.0

pub returns-clause-only : goal.returns-clause-only
returns-clause-only c =
    let r = read_after c.args.body.now c.new.result c.read_entry.new.fields c.read_entry.result c.new.ensures.at c.new.ensures.left c.in_ok-pass_all.ensures c.read_entry.ensures in
    is_only c.args.body.now c.read_entry.result r.0

pub returns-clause-none : goal.returns-clause-none
returns-clause-none c =
    let r = read_after c.args.body.now c.new.result c.read_entry.new.fields c.read_entry.result c.new.ensures.at c.new.ensures.left c.in_ok-pass_all.ensures c.read_entry.ensures in
    is_none c.args.body.now c.read_entry.result (λ i. omega (arith, c.type_inv.body i)) r.0 (λ at e. absurd (r.1 at e))

pub returns-clause-first : goal.returns-clause-first
returns-clause-first c =
    let r = read_after c.args.body.now c.new.result c.read_entry.new.fields c.read_entry.result c.new.ensures.at c.new.ensures.left c.in_ok-pass_all.ensures c.read_entry.ensures in
    is_first c.args.body.now c.read_entry.result (λ i. omega (arith, c.type_inv.body i)) r.0

pub returns-in_err-pass_all-clause-first : goal.returns-in_err-pass_all-clause-first
returns-in_err-pass_all-clause-first c =
    let p = err_from_is_err_and c.from_residual.result c.from_residual.ensures.1 in
    let given : GivesAll c.from_residual.result (entry_at c.args.body.now) = rw (p.1, p.2) c.in_err-pass_all.ensures in
    is_first c.args.body.now c.from_residual.result (λ i. omega (arith, c.type_inv.body i)) given
