-- `definition::slow_lists::fields` meets its contract: each list laid from its first item on. Assumes nothing.
use mathlib.Core.Path.{ap, ◌∙◌}
use native.Mathlib.Omega.{arith}
use Rattle.items.specs.declared.Of.TheVariants.{Predictors, Encodings, Signs}
use Rattle.items.specs.Rows.{code_of}
use Rattle.definition.specs.declared.Rows.{Rows}
use Rattle.definition.specs.Rows.{rows_of, both}
use Rattle.definition.specs.SlowLists.{slow_of}
use Rattle.definition.proofs.Laid.{laid_fields}
use Rattle.definition.proofs.slow_lists.fields.Goals as goal

pub returns : goal.returns
unfolding slow_of rows_of both code_of
returns c =
    λ l e. λ i.
    record {
      n = c.args.n;
      predictors =
          (c.cut_to.ensures
          ∙ laid_fields 0 16 Predictors l.predictors (ap (λ (r : Rows). r.intra_predictors) e) (omega arith)) i;
      encodings = (c.cut_to-2.ensures ∙ laid_fields 0 16 Encodings l.encodings (ap (λ (r : Rows). r.intra_encodings) e) (omega arith)) i;
      signs = (c.cut_to-3.ensures ∙ laid_fields 0 16 Signs l.signs (ap (λ (r : Rows). r.signs) e) (omega arith)) i;
    }
