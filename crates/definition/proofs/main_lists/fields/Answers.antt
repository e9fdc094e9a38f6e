-- `definition::main_lists::fields` meets its contract: list by list. Assumes nothing.
use mathlib.Core.Path.{ap, ◌∙◌}
use borrow.Author.Rules.{rules}
use Rattle.items.specs.declared.Of.TheVariants.{Predictors, Encodings, Signs}
use Rattle.items.specs.Rows.{code_of}
use Rattle.definition.specs.declared.Rows.{Rows}
use Rattle.definition.specs.MainLists.{main_of}
use Rattle.definition.specs.Rows.{rows_of}
use Rattle.definition.proofs.Laid.{laid_fields}
use Rattle.definition.proofs.main_lists.fields.Goals as goal

pub returns : goal.returns
unfolding code_of rows_of main_of
returns c l e =
    λ j. record {
      n = c.args.n;
      motor = c.motor_0.ensures l.names (ap (λ (r : Rows). r.names) e) j;
      intra_predictors =
          (c.cut_to.ensures
          ∙ laid_fields 2 62 Predictors l.intra_predictors (ap (λ (r : Rows). r.intra_predictors) e) (search rules)) j;
      inter_predictors =
          (c.cut_to-2.ensures
          ∙ laid_fields 2 62 Predictors l.inter_predictors (ap (λ (r : Rows). r.inter_predictors) e) (search rules)) j;
      intra_encodings =
          (c.cut_to-3.ensures
          ∙ laid_fields 2 62 Encodings l.intra_encodings (ap (λ (r : Rows). r.intra_encodings) e) (search rules)) j;
      inter_encodings =
          (c.cut_to-4.ensures ∙ laid_fields 2 62 Encodings l.inter_encodings (ap (λ (r : Rows). r.inter_encodings) e) (search rules)) j;
      signs = (c.cut_to-5.ensures ∙ laid_fields 2 62 Signs l.signs (ap (λ (r : Rows). r.signs) e) (search rules)) j;
    }
