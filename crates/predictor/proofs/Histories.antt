-- Which histories each predictor reads: what is said not to be read has no part in the prediction, and what is said to be read does.
use Rattle.std.proofs.Common.{Option, None, Some, ◌≡◌, ℕ, zero, suc, Bool, true, false, not}
use Rattle.std.proofs.Common.{◌||◌, eqb, List, [], ◌∷◌, get_or, sym, refl, subst, arith, eqb-true}
use mathlib.Core.Bool.{false≢true, and-eq-true_iff}
use borrow.Author.Tests.{not-true}
use Rattle.bits.specs.Pattern.{wrap, pattern, lowered, signed, meant}
use Rattle.plan.specs.Known.{among}
use Rattle.predictor.specs.declared.Surroundings.{Surroundings}
use Rattle.predictor.specs.Histories.{reads_last, reads_older, none_reads}
use Rattle.predictor.specs.Predictors.{or_zero, meaning, from_both, straight, half, mean, prediction}
use Rattle.predictor.specs.Sign.{value_of, up_to, fits}
use Rattle.predictor.proofs.Predictions.{pattern_value}

-- ## Numbers in a list, and out of it

abbrev Each : (ℕ → Type 0) → List ℕ → Type 0
Each P [] = Unit
Each P (n ∷ ns) = P n × Each P ns

-- a number of the list is one of its items
by_item : (P : ℕ → Type 0) (ns : List ℕ) (p : ℕ) → among ns p ≡ true → Each P ns → P p
unfolding among
by_item P [] p e each = absurd (false≢true e)
by_item P (n ∷ ns) p e each = either (eqb p n) refl e (λ g. by_item P ns p g each.1)
  where
    either : (t : Bool) → eqb p n ≡ t → t || among ns p ≡ true → (among ns p ≡ true → P p) → P p
    either true f g rest = subst P (sym (eqb-true p n f)) each.0
    either false f g rest = rest g

neither : (a b : Bool) → a || b ≡ false → (a ≡ false) × (b ≡ false)
neither true b e = absurd (false≢true (sym e))
neither false b e = (refl, e)

-- and another is none of them
no_item : (ns : List ℕ) (p : ℕ) → among ns p ≡ false → Each (λ n. eqb p n ≡ false) ns
unfolding among
no_item [] p e = tt
no_item (n ∷ ns) p e = ((neither (eqb p n) (among ns p) e).0, no_item ns p (neither (eqb p n) (among ns p) e).1)

-- ## A predictor

-- one that does not read last reads no history
pub last_unread : (p : ℕ) → reads_last p ≡ false
    → (signed : Bool) (around : Surroundings) (motor : ℕ) (last older last' older' : Option ℕ)
    → prediction signed around last older motor p ≡ prediction signed around last' older' motor p
unfolding reads_last prediction
last_unread p e signed around motor last older last' older' =
    let other = no_item _ p e in
    rw (other.0, other.1.0, other.1.1.0, other.1.1.1.0)

pub older_unread : (p : ℕ) → reads_older p ≡ false
    → (signed : Bool) (around : Surroundings) (motor : ℕ) (last older older' : Option ℕ)
    → prediction signed around last older motor p ≡ prediction signed around last older' motor p
unfolding reads_older prediction
older_unread p e signed around motor last older older' =
    let other = no_item _ p e in
    rw (other.0, other.1.0)

-- one that is not 5 does not read the frame's own `motor[0]`
pub motor_unread : (p : ℕ) → eqb p 5 ≡ false
    → (signed : Bool) (around : Surroundings) (last older : Option ℕ) (motor motor' : ℕ)
    → prediction signed around last older motor p ≡ prediction signed around last older motor' p
unfolding prediction
motor_unread p e signed around last older motor motor' = rw e

abbrev Differ : (signed : Bool) → Surroundings → (motor : ℕ) → (last older last' older' : Option ℕ) → (p : ℕ) → Type 0
Differ signed around motor last older last' older' p = prediction signed around last older motor p ≡ prediction signed around last' older' motor p → ⊥

-- one that reads last says another thing of a last 0 than of a last 1
pub last_read : (p : ℕ) → reads_last p ≡ true
    → (signed : Bool) (around : Surroundings) (motor : ℕ)
    → prediction signed around (Some 0) None motor p ≡ prediction signed around (Some 1) None motor p → ⊥
unfolding reads_last prediction or_zero meaning from_both wrap
last_read p e signed around motor =
    by_item (Differ signed around motor (Some 0) None (Some 1) None) _ p e (λ f. omega arith, (own, (own, (λ f. omega arith, tt))))
  where
    own : pattern (value_of signed 0) ≡ pattern (value_of signed 1) → ⊥
    own f = omega (arith, pattern_value signed 0 (omega arith), pattern_value signed 1 (omega arith))

-- one that reads older says another thing, with last 4, of an older 0 than of an older 2
pub older_read : (p : ℕ) → reads_older p ≡ true
    → (signed : Bool) (around : Surroundings) (motor : ℕ)
    → prediction signed around (Some 4) (Some 0) motor p ≡ prediction signed around (Some 4) (Some 2) motor p → ⊥
unfolding reads_older prediction meaning from_both value_of meant signed lowered straight up_to fits half mean pattern wrap
older_read p e true around motor =
    by_item (Differ true around motor (Some 4) (Some 0) (Some 4) (Some 2)) _ p e (λ f. omega arith, (λ f. omega arith, tt))
older_read p e false around motor =
    by_item (Differ false around motor (Some 4) (Some 0) (Some 4) (Some 2)) _ p e (λ f. omega arith, (λ f. omega arith, tt))

-- ## A list of predictors

-- of which none reads: at any index, since 0, which stands behind the list, reads nothing
pub none_at : (reads : ℕ → Bool) → reads 0 ≡ false → (ps : List ℕ) → none_reads reads ps ≡ true → (i : ℕ) → reads (get_or ps i 0) ≡ false
unfolding none_reads
none_at reads z [] e i = z
none_at reads z (p ∷ ps) e zero = not-true (reads p) ((and-eq-true_iff (not (reads p)) (none_reads reads ps)).0 e).0
none_at reads z (p ∷ ps) e (suc i) = none_at reads z ps ((and-eq-true_iff (not (reads p)) (none_reads reads ps)).0 e).1 i

pub last_unread_at : (ps : List ℕ) → none_reads reads_last ps ≡ true → (i : ℕ)
    → (signed : Bool) (around : Surroundings) (motor : ℕ) (last older last' older' : Option ℕ)
    → prediction signed around last older motor (get_or ps i 0) ≡ prediction signed around last' older' motor (get_or ps i 0)
unfolding reads_last among
last_unread_at ps e i = last_unread (get_or ps i 0) (none_at reads_last refl ps e i)

pub older_unread_at : (ps : List ℕ) → none_reads reads_older ps ≡ true → (i : ℕ)
    → (signed : Bool) (around : Surroundings) (motor : ℕ) (last older older' : Option ℕ)
    → prediction signed around last older motor (get_or ps i 0) ≡ prediction signed around last older' motor (get_or ps i 0)
unfolding reads_older among
older_unread_at ps e i = older_unread (get_or ps i 0) (none_at reads_older refl ps e i)
