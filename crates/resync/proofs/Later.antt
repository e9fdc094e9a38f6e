-- From what `Both` says of each step: which frames are the same.
-- An intra frame that reads no history is; behind two of them, or behind one where no inter frame reads older, so is every later step.
use Rattle.std.specs.Prelude.{Some}
use Prim.Native.Nat.{ℕ, zero, suc, ◌+◌, ◌-◌, ◌<◌, ◌≤◌}
use mathlib.Core.Bool.{true, false, true≢false}
use mathlib.Core.Logic.{◌⊎◌, inl, inr}
use mathlib.Core.Path.{◌≡◌, refl, sym, ap, ◌∙◌}
use native.Mathlib.Nat.{zero-add, suc-add}
use native.Mathlib.Omega.{arith}
use Rattle.plan.specs.declared.Definition.{Definition}
use Rattle.plan.specs.Plan.{fields, shape, rules}
use Rattle.raws.specs.declared.Raw.{Raw}
use Rattle.frame.specs.declared.MainFrame.{MainFrame}
use Rattle.frame.specs.Frames.{intra_frame, inter_frame}
use Rattle.frame.specs.Past.{Body, Past, past_of, body_of}
use Rattle.frame.proofs.Histories.{intra_alone, inter_behind_intra}
use Rattle.section.specs.declared.Answer.{Answer}
use Rattle.section.specs.declared.Answer.TheVariants.{Intra, Inter}
use Rattle.section.specs.declared.MainAnswer.{MainAnswer}
use Rattle.resync.specs.Demand3.{IntraAlone, InterByLast}
use Rattle.resync.specs.From.{answer_from, from, Same, outline}
use Rattle.resync.specs.Runs.{Shown, is_intra, is_inter}
use Rattle.resync.proofs.Answers.{outline_from, intra_no_inter}
use Rattle.resync.proofs.Both.{Made, Both, other, intra, inter, framed}
use Rattle.resync.proofs.Outline.{intra_bare, inter_bare}

-- ## What is shown

-- two pasts that say the same of both frames
past_path : (g h : Past) → g.last ≡ h.last → g.older ≡ h.older → g ≡ h
past_path g h last older = λ i. record { last = last i; older = older i }

-- equal, or behind one and the same intra frame
abbrev Ready : Past → Past → Type 0
Ready g g' = (g ≡ g') ⊎ ((f : Body) × (g.last ≡ Some f) × (g'.last ≡ Some f) × (f.inter ≡ false))

ready_last : (g g' : Past) → Ready g g' → g.last ≡ g'.last
ready_last g g' (inl same) = ap (λ (p : Past). p.last) same
ready_last g g' (inr (f, here, there, is)) = here ∙ sym there

-- ## One step

module _ (d : Definition) (b b' : ℕ) where
  abbrev intra_by : Past → Raw → MainFrame
  intra_by = intra_frame (shape d) (rules d)

  abbrev inter_by : Past → Raw → MainFrame
  inter_by = inter_frame (shape d) (rules d)

  same_intra : IntraAlone d → (g g' : Past) (x : Raw) → intra_by g x ≡ intra_by g' x
  same_intra alone g g' x = intra_alone (shape d) (rules d) g g' x alone

  same_inter : InterByLast d → (g g' : Past) (x : Raw) → Ready g g' → inter_by g x ≡ inter_by g' x
  same_inter by_Last g g' x (inl same) = ap (λ p. inter_by p x) same
  same_inter by_Last g g' x (inr (f, here, there, is)) =
      ap (λ p. inter_by p x) (past_path g (past_of (Some f) g.older) here refl)
      ∙ inter_behind_intra (shape d) (rules d) f g.older g'.older x by_Last is
      ∙ sym (ap (λ p. inter_by p x) (past_path g' (past_of (Some f) g'.older) there refl))

  module _ {make : Past → Raw → MainFrame} {tell : MainAnswer → Answer} {g g' : Past} {e e' : Shown}
      {h h' : Past} (m : Made (fields d.main) make tell b b' g g' e e' h h') where
    abbrev Equal : Type 0
    Equal = make g m.raw ≡ make g' m.raw

    made_same : Equal → Same b b' e e'
    made_same eq =
        (framed (fields d.main) tell m.at (make g m.raw), m.shows, m.shows' ∙ sym (ap (λ f. from b' (framed (fields d.main) tell m.at f)) eq))

    made_last : Equal → h.last ≡ h'.last
    made_last eq = ap (λ (p : Past). p.last) m.pushes ∙ ap body_of eq ∙ sym (ap (λ (p : Past). p.last) m.pushes')

    made_past : Equal → g.last ≡ g'.last → h ≡ h'
    made_past eq last = m.pushes ∙ past_path _ _ (ap body_of eq) last ∙ sym m.pushes'

    made_outline : outline (framed (fields d.main) tell m.at (make g m.raw)) ≡ outline (framed (fields d.main) tell m.at (make g' m.raw))
        → Same b b' (outline e) (outline e')
    made_outline bare =
        let f = framed (fields d.main) tell m.at (make g m.raw) in
        let f' = framed (fields d.main) tell m.at (make g' m.raw) in
        (outline f, ap outline m.shows ∙ outline_from b f, ap outline m.shows' ∙ outline_from b' f' ∙ ap (from b') (sym bare))

  module _ {g g' : Past} {e e' : Shown} {h h' : Past} where
    -- what an accepted main frame shows is of its kind
    is_intra_law : Made (fields d.main) intra_by Intra b b' g g' e e' h h' → is_intra e.answer ≡ true
    unfolding is_intra answer_from
    is_intra_law m = ap (λ (x : Shown). is_intra x.answer) m.shows

    is_inter_law : Made (fields d.main) inter_by Inter b b' g g' e e' h h' → is_inter e.answer ≡ true
    unfolding is_inter answer_from
    is_inter_law m = ap (λ (x : Shown). is_inter x.answer) m.shows

    inter_no_intra : Made (fields d.main) inter_by Inter b b' g g' e e' h h' → is_intra e.answer ≡ false
    unfolding is_intra answer_from
    inter_no_intra m = ap (λ (x : Shown). is_intra x.answer) m.shows

    both_outline : Both d b b' g g' e e' h h' → Same b b' (outline e) (outline e')
    both_outline (other o) = let (x, here, there) = o.same in (outline x, ap outline here ∙ outline_from b x, ap outline there ∙ outline_from b' x)
    both_outline (intra m) = made_outline m (intra_bare d m.at g g' m.raw)
    both_outline (inter m) = made_outline m (inter_bare d m.at g g' m.raw)

    both_other : Both d b b' g g' e e' h h' → is_intra e.answer ≡ false → is_inter e.answer ≡ false → Same b b' e e'
    both_other (other o) no_intra no_inter = o.same
    both_other (intra m) no_intra no_inter = absurd (true≢false (sym (is_intra_law m) ∙ no_intra))
    both_other (inter m) no_intra no_inter = absurd (true≢false (sym (is_inter_law m) ∙ no_inter))

    -- behind equal pasts a step is the same, and so are the pasts behind it
    both_equal : g ≡ g' → Both d b b' g g' e e' h h' → Same b b' e e' × (h ≡ h')
    both_equal same (other o) = (o.same, o.keeps ∙ same ∙ sym o.keeps')
    both_equal same (intra m) = let eq = ap (λ p. intra_by p m.raw) same in (made_same m eq, made_past m eq (ap (λ (p : Past). p.last) same))
    both_equal same (inter m) = let eq = ap (λ p. inter_by p m.raw) same in (made_same m eq, made_past m eq (ap (λ (p : Past). p.last) same))

    module _ (alone : IntraAlone d) where
      but_inter : Both d b b' g g' e e' h h' → is_inter e.answer ≡ false → Same b b' e e'
      but_inter (other o) not = o.same
      but_inter (intra m) not = made_same m (same_intra alone g g' m.raw)
      but_inter (inter m) not = absurd (true≢false (sym (is_inter_law m) ∙ not))

      first_last : Both d b b' g g' e e' h h' → is_intra e.answer ≡ true → h.last ≡ h'.last
      first_last (other o) is = absurd (true≢false (sym is ∙ o.no_intra))
      first_last (intra m) is = made_last m (same_intra alone g g' m.raw)
      first_last (inter m) is = absurd (true≢false (sym is ∙ inter_no_intra m))

      keeps_last : Both d b b' g g' e e' h h' → is_inter e.answer ≡ false → g.last ≡ g'.last → h.last ≡ h'.last
      keeps_last (other o) not last = ap (λ (p : Past). p.last) o.keeps ∙ last ∙ sym (ap (λ (p : Past). p.last) o.keeps')
      keeps_last (intra m) not last = made_last m (same_intra alone g g' m.raw)
      keeps_last (inter m) not last = absurd (true≢false (sym (is_inter_law m) ∙ not))

      second_equal : Both d b b' g g' e e' h h' → is_intra e.answer ≡ true → g.last ≡ g'.last → h ≡ h'
      second_equal (other o) is last = absurd (true≢false (sym is ∙ o.no_intra))
      second_equal (intra m) is last = made_past m (same_intra alone g g' m.raw) last
      second_equal (inter m) is last = absurd (true≢false (sym is ∙ inter_no_intra m))

      -- one intra frame behind which both stand
      ready_intra : Made (fields d.main) intra_by Intra b b' g g' e e' h h' → Ready h h'
      unfolding intra_frame body_of
      ready_intra m =
          let f = intra_by g' m.raw in
          inr (
            record { inter = false; iteration = f.iteration; time = f.time; values = f.values },
            ap (λ (p : Past). p.last) m.pushes ∙ ap body_of (same_intra alone g g' m.raw),
            ap (λ (p : Past). p.last) m.pushes',
            refl,
          )

      ready_first : Both d b b' g g' e e' h h' → is_intra e.answer ≡ true → Ready h h'
      ready_first (other o) is = absurd (true≢false (sym is ∙ o.no_intra))
      ready_first (intra m) is = ready_intra m
      ready_first (inter m) is = absurd (true≢false (sym is ∙ inter_no_intra m))

      module _ (by_Last : InterByLast d) where
        ready_on : Ready g g' → Both d b b' g g' e e' h h' → Same b b' e e' × Ready h h'
        ready_on ready (other o) = (o.same, rw (o.keeps, o.keeps') ready)
        ready_on ready (intra m) = (made_same m (same_intra alone g g' m.raw), ready_intra m)
        ready_on ready (inter m) = let eq = same_inter by_Last g g' m.raw ready in (made_same m eq, inl (made_past m eq (ready_last g g' ready)))

-- ## n steps

-- what holds at a number and is handed on holds behind so many more
on_by_law : (R : ℕ → Type 0) (a k : ℕ) → R a → ((m : ℕ) → a ≤ m → m < k + a → R m → R (suc m)) → R (k + a)
on_by_law R a zero r on = rw (zero-add a) r
on_by_law R a (suc k) r on = rw (suc-add k a) (on (k + a) (omega arith) (omega arith) (on_by_law R a k r (λ m below under. on m below (omega arith))))

-- and so from there on
from_on : (R : ℕ → Type 0) (a : ℕ) → R a → (n : ℕ) → ((m : ℕ) → a ≤ m → m < n → R m → R (suc m)) → a ≤ n → R n
from_on R a r n on h = let k : n ≡ (n - a) + a = omega arith in rw k (on_by_law R a (n - a) r (λ m below under. on m below (omega arith)))

-- e and e' are what the steps show, g and g' the pasts before them
module _ (d : Definition) (b b' : ℕ) (e e' : ℕ → Shown) (g g' : ℕ → Past)
    (goes : (n : ℕ) → Both d b b' (g n) (g' n) (e n) (e' n) (g (suc n)) (g' (suc n))) where
  pub outlines : (n : ℕ) → Same b b' (outline (e n)) (outline (e' n))
  outlines n = both_outline d b b' (goes n)

  pub others_same : (n : ℕ) → is_intra (e n).answer ≡ false → is_inter (e n).answer ≡ false → Same b b' (e n) (e' n)
  others_same n = both_other d b b' (goes n)

  module _ (alone : IntraAlone d) where
    pub intra_same : (n : ℕ) → is_intra (e n).answer ≡ true → Same b b' (e n) (e' n)
    intra_same n is = but_inter d b b' alone (goes n) (intra_no_inter (e n).answer is)

    pub two_intra : (i j n : ℕ) → i < j → j < n → is_intra (e i).answer ≡ true → is_intra (e j).answer ≡ true
        → ((m : ℕ) → i < m → m < j → is_inter (e m).answer ≡ false) → Same b b' (e n) (e' n)
    two_intra i j n before later first second between =
        let lasts =
        from_on (λ m. (g m).last ≡ (g' m).last) (suc i) (first_last d b b' alone (goes i) first) j
        (λ m h k same. keeps_last d b b' alone (goes m) (between m h k) same) before in
        let pasts =
        from_on (λ m. g m ≡ g' m) (suc j) (second_equal d b b' alone (goes j) second lasts) n (λ m h k same. (both_equal d b b' same (goes m)).1) later in
        (both_equal d b b' pasts (goes n)).0

    pub one_intra : InterByLast d → (i n : ℕ) → i < n → is_intra (e i).answer ≡ true → Same b b' (e n) (e' n)
    one_intra by_Last i n later first =
        let ready =
        from_on (λ m. Ready (g m) (g' m)) (suc i) (ready_first d b b' alone (goes i) first) n
        (λ m h k so. (ready_on d b b' alone by_Last so (goes m)).1) later in
        (ready_on d b b' alone by_Last ready (goes n)).0
