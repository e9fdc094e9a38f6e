-- `words::table::each_line` meets its contract: the first line and a call with it, and then the others.
use Rattle.std.proofs.Common.{rules, of_calls, Err, subst}
use Rattle.std.specs.Fn.{CalledAt}
use Rattle.words.specs.Lines.{lines, Told}
use Rattle.words.proofs.Lines.{lines_first, told_none, told_on, told_last}
use Rattle.words.proofs.table.each_line.Goals as goal

pub loop-rest-preserved : goal.loop-rest-preserved
loop-rest-preserved g c =
    record {
      callable = search of_calls;
      told = λ r later. c.loop-rest.invariant.told r (told_on (CalledAt g.F.FnMut) _ (lines_first c.loop-rest.rest.now (search rules))
          (record { shown = c.split.result.0; shows = c.split.ensures.0; called = c.in_ok-each.ensures }) r
          (subst (λ s. Told (CalledAt g.F.FnMut) c.each.new.self (lines s) r) c.split.ensures.1 later));
    }

pub returns-in_err-each : goal.returns-in_err-each
returns-in_err-each g c =
    c.loop-rest.invariant.told _ (told_last (CalledAt g.F.FnMut) _ (lines_first c.loop-rest.rest.now (search rules)) (Err c.in_err-each.field-0.0) _
    (record { shown = c.split.result.0; shows = c.split.ensures.0; called = c.in_err-each.ensures }) (search rules) c.from_residual.ensures.0)

pub returns : goal.returns
returns g c = c.loop-rest.invariant.told _ (told_none _ _ _ (search rules))
