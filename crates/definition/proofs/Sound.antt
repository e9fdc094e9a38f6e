-- Whatever the lists are, the definition that comes out is sound: a refused one has no fields, an accepted one has passed checks 2, 3, 8 and 9.
use Prim.Native.Nat.{ℕ, zero, suc, ◌+◌, ◌-◌, ◌<◌, ◌≤◌}
use mathlib.Core.Bool.{Bool, true, false, cond, not, true≢false}
use mathlib.Core.List.{List, [], ◌∷◌}
use Rattle.std.specs.Prelude.{Option, None, Some}
use mathlib.Core.Path.{◌≡◌, refl, sym, ap, ◌∙◌}
use native.Mathlib.Nat.{zero-add}
use native.Mathlib.Omega.{arith}
use lib.ListN.{get_or, take, length-take}
use lib.Seq.{get_or-take}
use borrow.Author.Tests.{lt-ltb, ltb-false, not-false}
use Rattle.items.specs.declared.Lists.{Lists}
use Rattle.items.specs.declared.SlowLists.{SlowLists}
use Rattle.items.specs.Items.{at}
use Rattle.items.specs.Said.{predictor_of, encoding_of, unknown, numbered}
use Rattle.items.proofs.Saying.{predictor_among, encoding_among}
use Rattle.items.proofs.Tables.{get_d_table}
use Rattle.plan.specs.declared.Numbers.{Numbers}
use Rattle.plan.specs.declared.Settings.{Settings}
use Rattle.plan.specs.Known.{among, predictors, encodings}
use Rattle.plan.specs.Plan.{no_slow, nothing}
use Rattle.plan.specs.Sound.{known, unmet_from, unmet_slow, sound_main, sound_slow, is_interval, sound}
use Rattle.plan.proofs.Needs.{known_all}
use Rattle.plan.proofs.Sound.{main_sound_made, slow_sound_made, sound_made, nothing_sound}
use Rattle.definition.specs.declared.Paper.{Paper}
use Rattle.definition.specs.Checks.{Finding, check, ◌or_else◌, unknown_in, unknown_from}
use Rattle.definition.specs.Defined.{main_items, slow_items, slow_absent, no_slow_lists, main_finding, slow_finding}
use Rattle.definition.specs.Defined.{judged, slow_fields, fields_of, in_interval, definition_of, defined}
use Rattle.definition.specs.MainLists.{Items, MainItems, rounds, said, in_rounds, fields_from, predictor, encoding, main_of, in_needs, judged_main}
use Rattle.definition.specs.SlowLists.{SlowItems, slow_rounds, slow_said, slow_of, judged_four, judged_slow}
use Rattle.definition.proofs.Judged.{else_none}

-- ## Checks that find nothing

test_none : (t : Bool) (p : Paper) (r : Finding) → cond t (Some p) r ≡ None → (t ≡ false) × (r ≡ None)
test_none true p r e = let z : ◌≡◌ {A = ℕ} 0 1 = cc in absurd (omega arith)
test_none false p r e = (refl, e)

check_none : (t : Bool) (number place : ℕ) → check t number place ≡ None → t ≡ false
check_none t number place e = (test_none t _ _ e).0

-- where four checks, one after another, find nothing, none of them does
four_none : (a b c d : Finding) → (a or_else b or_else c or_else d) ≡ None → (a ≡ None) × (b ≡ None) × (c ≡ None) × (d ≡ None)
four_none a b c d e =
    let one = else_none a _ e in
    let two = else_none b _ one.1 in
    let three = else_none c d two.1 in
    (one.0, two.0, three.0, three.1)

needs_none : (need : Option ℕ) → in_needs need ≡ None → need ≡ None
unfolding in_needs
needs_none None e = refl
needs_none (Some field) e = let z : ◌≡◌ {A = ℕ} 0 1 = cc in absurd (omega arith)

-- ## Check 3

-- what the list at place j says; behind the last, something known
abbrev saying : List (ℕ × Option ℕ) → ℕ → Option ℕ
saying ls j = (get_or ls j (0, Some 0)).1

-- in a round that passes, every item is known
known_in : (k : ℕ) (ls : List (ℕ × Option ℕ)) → unknown_in k ls ≡ None → (j : ℕ) → unknown (saying ls j) ≡ false
unfolding unknown_in
known_in k [] e j = refl
known_in k (l ∷ ls) e zero = (test_none (unknown l.1) _ _ e).0
known_in k (l ∷ ls) e (suc j) = known_in k ls (test_none (unknown l.1) _ _ e).1 j

-- and so in each of m rounds
known_from : (said : ℕ → List (ℕ × Option ℕ)) (k m : ℕ) → unknown_from said k m ≡ None
    → (i : ℕ) → i < m → (j : ℕ) → unknown (saying (said (i + k)) j) ≡ false
unfolding unknown_from
known_from said k zero e i h j = absurd (omega arith)
known_from said k (suc m) e zero h j = rw (zero-add k) (known_in k (said k) (else_none _ _ e).0 j)
known_from said k (suc m) e (suc i) h j =
    let on : suc i + k ≡ i + suc k = omega arith in
    rw on (known_from said (suc k) m (else_none _ _ e).1 i (omega arith) j)

-- a known item says one of the numbers that there are
known_among : (ns : List ℕ) (o : Option ℕ) → ((n : ℕ) → o ≡ Some n → among ns n ≡ true) → unknown o ≡ false → among ns (numbered o) ≡ true
known_among ns None h e = absurd (true≢false e)
known_among ns (Some n) h e = h n refl

-- ## The rooms of m fields

module _ (first rooms n m : ℕ) (few : (m ≤ rooms) × (m ≤ n - first)) where
  -- what room i holds
  room : (code : List ℕ → ℕ) (l : Items) (i : ℕ) → i < m → get_or (take m (fields_from first rooms n code l)) i 0 ≡ code (at l (i + first))
  unfolding fields_from
  room code l i h =
      get_or-take m _ i 0 h
      ∙ get_d_table rooms _ i 0 (omega arith)
      ∙ ap (λ t. cond t (code (at l (i + first))) 0) (lt-ltb (i + first) n (omega arith))

  -- m rounds that pass check 3
  module _ (said : ℕ → List (ℕ × Option ℕ)) (passed : unknown_from said first m ≡ None) where
    -- the codes of a list that stands at place j of a round are numbers that there are
    code_among : (ns : List ℕ) (of : List ℕ → Option ℕ) → ((item : List ℕ) (k : ℕ) → of item ≡ Some k → among ns k ≡ true)
        → (l : Items) (j : ℕ) → ((k : ℕ) → saying (said k) j ≡ of (at l k))
        → (i : ℕ) → i < m → among ns (get_or (take m (fields_from first rooms n (λ item. numbered (of item)) l)) i 0) ≡ true
    code_among ns of are l j is i h =
        ap (among ns) (room (λ item. numbered (of item)) l i h)
        ∙ known_among ns _ (are (at l (i + first))) (ap unknown (sym (is (i + first))) ∙ known_from said first m passed i h j)

    -- predictors at place a and encodings at place b make known rooms
    rooms_known : (ps es : Items) (a b : ℕ) → ((k : ℕ) → saying (said k) a ≡ predictor_of (at ps k)) → ((k : ℕ) → saying (said k) b ≡ encoding_of (at es k))
        → known (take m (fields_from first rooms n predictor ps)) (take m (fields_from first rooms n encoding es)) ≡ true
    rooms_known ps es a b p e =
        known_all _ _
        (λ i h _.
        let inside : i < m = omega (arith, length-take m (fields_from first rooms n predictor ps)) in (
          code_among predictors predictor_of (λ item _. predictor_among item) ps a p i inside,
          code_among encodings encoding_of (λ item _. encoding_among item) es b e i inside,
        ))

-- ## Main lists that pass

module _ (l : MainItems) (numbers : Numbers) (passed : judged_main l numbers ≡ None) where
  in_rounds_law : in_rounds l (rounds l) ≡ None
  unfolding judged_main
  in_rounds_law = (four_none _ _ _ _ passed).1

  main_count : (2 ≤ rounds l) × (rounds l ≤ 64)
  unfolding judged_main in_rounds
  main_count =
      (ltb-false (rounds l) 2 (check_none _ _ _ (four_none _ _ _ _ in_rounds_law).2), ltb-false 64 (rounds l) (check_none _ _ _ (four_none _ _ _ _ passed).0))

  main_sound : sound_main (main_of l (rounds l)) numbers ≡ true
  unfolding judged_main in_rounds main_of said
  main_sound =
      let few : (rounds l - 2 ≤ 62) × (rounds l - 2 ≤ rounds l - 2) = omega (arith, main_count) in
      let behind-time = (else_none _ _ (else_none _ _ (four_none _ _ _ _ in_rounds_law).3).1).1 in
      let codes = rooms_known 2 62 (rounds l) (rounds l - 2) few (said l) behind-time in
      main_sound_made (main_of l (rounds l)) numbers few.0
      (codes l.intra_predictors l.intra_encodings 0 2 (λ k. refl) (λ k. refl))
      (codes l.inter_predictors l.inter_encodings 1 3 (λ k. refl) (λ k. refl))
      (needs_none _ (four_none _ _ _ _ passed).3)

-- ## Slow lists that pass

module _ (l : SlowItems) (numbers : Numbers) (passed : judged_slow l numbers ≡ None) where
  parts : (judged_four 16 l ≡ None) × (in_needs (unmet_slow (slow_of l (slow_rounds l)) numbers) ≡ None)
  unfolding judged_slow
  parts = else_none _ _ passed

  slow_count : slow_rounds l ≤ 16
  unfolding judged_four
  slow_count = ltb-false 16 (slow_rounds l) (check_none _ _ _ (else_none _ _ parts.0).0)

  slow_sound : sound_slow (slow_of l (slow_rounds l)) numbers ≡ true
  unfolding judged_four slow_of slow_said
  slow_sound =
      let known-items = (else_none _ _ (else_none _ _ parts.0).1).0 in
      let codes = rooms_known 0 16 (slow_rounds l) (slow_rounds l) (omega (arith, slow_count)) (slow_said l) known-items in
      slow_sound_made (slow_of l (slow_rounds l)) numbers slow_count
      (codes l.predictors l.encodings 0 1 (λ k. refl) (λ k. refl))
      (needs_none _ parts.1)

no_slow_sound : (numbers : Numbers) → sound_slow no_slow numbers ≡ true
unfolding sound_slow unmet_slow unmet_from known
no_slow_sound numbers = refl

-- what slow lists that pass give has at most 16 items, and is sound
slow_passed : (text : List ℕ) (l : SlowLists) (numbers : Numbers) → slow_finding text l numbers ≡ None
    → ((slow_fields text l).n ≤ 16) × (sound_slow (slow_fields text l) numbers ≡ true)
unfolding slow_finding slow_of
slow_passed text l numbers e = by (no_slow_lists l) e
  where
    items : SlowItems
    items = slow_items text l

    by : (t : Bool) → cond t None (slow_absent text l or_else judged_slow items numbers) ≡ None
        → ((cond t no_slow (slow_of items (slow_rounds items))).n ≤ 16) × (sound_slow (cond t no_slow (slow_of items (slow_rounds items))) numbers ≡ true)
    by true e = (omega arith, no_slow_sound numbers)
    by false e = let passed = (else_none _ _ e).1 in (slow_count items numbers passed, slow_sound items numbers passed)

-- ## The definition

module _ (text : List ℕ) (l : Lists) (numbers : Numbers) (settings : Settings) where
  by_finding : {f : Finding} → (defined text l numbers settings).finding ≡ f
      → (defined text l numbers settings).definition ≡ definition_of f (fields_of text l numbers settings)
  unfolding defined
  by_finding e = ap (λ f. definition_of f (fields_of text l numbers settings)) e

  pub defined_refused_has_no_fields : {p : Paper} → (defined text l numbers settings).finding ≡ Some p → (defined text l numbers settings).definition ≡ nothing
  unfolding definition_of
  defined_refused_has_no_fields = by_finding

  module _ (accepted : (defined text l numbers settings).finding ≡ None) where
    pub defined_accepted_has_its_fields : (defined text l numbers settings).definition ≡ fields_of text l numbers settings
    unfolding definition_of
    defined_accepted_has_its_fields = by_finding accepted

    passed : (judged_main (main_items text l.main) numbers ≡ None) × (slow_finding text l.slow numbers ≡ None)
        × (not (is_interval settings.interval) ≡ false)
    unfolding defined judged main_finding in_interval fields_of
    passed =
        let main = else_none _ _ accepted in
        let behind = else_none _ _ main.1 in
        ((else_none _ _ main.0).1, behind.0, check_none _ _ _ behind.1)

    -- 2 to 64 main items, and at most 16 slow ones
    pub defined_counts : let d = (defined text l numbers settings).definition in (2 ≤ d.main.n) × (d.main.n ≤ 64) × (d.slow.n ≤ 16)
    unfolding fields_of main_of
    defined_counts =
        let main = main_count _ numbers passed.0 in
        rw defined_accepted_has_its_fields (main.0, main.1, (slow_passed text l.slow numbers passed.1).0)

    accepted_sound : sound (defined text l numbers settings).definition ≡ true
    unfolding fields_of
    accepted_sound =
        ap sound defined_accepted_has_its_fields
        ∙ sound_made (fields_of text l numbers settings) (main_sound _ numbers passed.0) (slow_passed text l.slow numbers passed.1).1
        (not-false _ passed.2)

  pub defined_sound : sound (defined text l numbers settings).definition ≡ true
  defined_sound = by (defined text l numbers settings).finding refl
    where
      by : (f : Finding) → (defined text l numbers settings).finding ≡ f → sound (defined text l numbers settings).definition ≡ true
      by None e = accepted_sound e
      by (Some p) e = ap sound (defined_refused_has_no_fields e) ∙ nothing_sound
