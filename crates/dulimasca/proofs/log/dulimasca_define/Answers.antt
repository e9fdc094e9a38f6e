-- `log::dulimasca_define` meets its contract: what is lent is refused, a log that passes, one that is refused. Assumes nothing.
use Rattle.definition.proofs.Fitting.{refusal_fits}
use Rattle.dulimasca.proofs.Defining.{define_unlent, define_room, define_passed, define_refused}
use Rattle.dulimasca.proofs.log.dulimasca_define.Goals as goal

pub returns-in-Err : goal.returns-in-Err
returns-in-Err c = rw c.answer.ensures (define_unlent _ _ _ _ c.in-Err.ensures)

pub tell-requires : goal.tell-requires
tell-requires c = define_room c.args.log.now _ c.args.buf.now _ c.in_default.ensures

pub refuse-requires : goal.refuse-requires
refuse-requires c =
    let p = refusal_fits _ _ _ _ _ c.define-defined.ensures c.in-Err-verdict.is c.paper-paper.ensures in
    (rw c.from.ensures p.0, p.1)

pub returns-in-Ok : goal.returns-in-Ok
returns-in-Ok c =
    define_passed _ _ _ _ c.in_default.ensures _ c.read-head.ensures c.numbers_in-numbers.ensures c.settings_in-rest.ensures c.define-defined.ensures
    c.in-Ok.is c.put.ensures c.about_log.ensures c.tell.ensures

pub returns-in-Err-verdict : goal.returns-in-Err-verdict
returns-in-Err-verdict c =
    define_refused _ _ _ _ c.in_default.ensures _ c.read-head.ensures c.numbers_in-numbers.ensures c.settings_in-rest.ensures c.define-defined.ensures
    c.in-Err-verdict.is c.paper-paper.ensures (rw c.from.ensures at c.refuse.ensures)
