-- Two whole walks whose calls are alike: both end with the same call, so they end alike and count as much.
use Prim.Native.Nat.{ℕ, ◌<◌}
use mathlib.Core.Bool.{Bool, true, false, true≢false}
use mathlib.Core.List.{List, []}
use mathlib.Core.Path.{◌≡◌, sym, ap, ◌∙◌}
use native.Mathlib.Decide.{dec_lt}
use native.Mathlib.Omega.{arith}
use Rattle.plan.specs.declared.Definition.{Definition}
use Rattle.section.specs.declared.Answer.{Answer}
use Rattle.section.specs.declared.Looked.{Looked}
use Rattle.section.specs.declared.Tally.{Tally}
use Rattle.section.specs.declared.Walk.{Walk}
use Rattle.section.specs.Answers.{Told, told, handed, is_over}
use Rattle.section.proofs.Paper.{paper_injective}
use Rattle.calls.specs.Call.{after, called}
use Rattle.calls.proofs.Until.{after_suc}
use Rattle.walks.specs.declared.Counted.{Counted}
use Rattle.walks.specs.Owes.{counts}
use Rattle.walks.specs.Walks.{Counts, counts_of, through_of}
use Rattle.walks.proofs.Walks.{Through}
use Rattle.resync.specs.Code.{alone, EndAlike}
use Rattle.resync.specs.Demand3.{Level}
use Rattle.resync.specs.From.{outline, Same}
use Rattle.resync.specs.Runs.{Shown, shown, behind}
use Rattle.resync.proofs.Answers.{from_over, outline_over, outline_whole}

-- the first number at which a test holds
abbrev FirstAt : (ℕ → Bool) → ℕ → Type 0
FirstAt q n = (q n ≡ true) × ((m : ℕ) → m < n → q m ≡ false)

-- where two tests agree everywhere, they first hold at one and the same number
first_same : (q q' : ℕ → Bool) → ((m : ℕ) → q m ≡ q' m) → (n n' : ℕ) → FirstAt q n → FirstAt q' n' → n ≡ n'
first_same q q' same n n' a b = go (dec_lt n n') (dec_lt n' n)
  where
    go : Dec (n < n') → Dec (n' < n) → n ≡ n'
    go (yes h) k = absurd (true≢false (sym a.0 ∙ same n ∙ b.1 n h))
    go (no h) (yes k) = absurd (true≢false (sym b.0 ∙ sym (same n') ∙ a.1 n' k))
    go (no h) (no k) = omega arith

-- ## Answers that are over

module _ (b b' : ℕ) (e e' : Shown) (same : Same b b' (outline e) (outline e')) where
  over_alike : is_over e.answer ≡ is_over e'.answer
  over_alike =
      sym (outline_over e.fields e.answer)
      ∙ ap (λ (x : Shown). is_over x.answer) same.1
      ∙ from_over b same.0.answer
      ∙ sym (from_over b' same.0.answer)
      ∙ ap (λ (x : Shown). is_over x.answer) (sym same.2)
      ∙ outline_over e'.fields e'.answer

  over_same : is_over e.answer ≡ true → is_over e'.answer ≡ true → Same b b' (alone e.answer) (alone e'.answer)
  over_same h h' = (
    alone same.0.answer,
    ap alone (sym (outline_whole e.fields e.answer h) ∙ ap (λ (x : Shown). x.answer) same.1),
    ap alone (sym (outline_whole e'.fields e'.answer h') ∙ ap (λ (x : Shown). x.answer) same.2),
  )

-- ## A whole walk is its first call that is over

module _ (d : Definition) (s : List ℕ) (w : Walk) where
  abbrev over_at : ℕ → Bool
  over_at n = is_over (shown (called d s) w n).answer

  -- an answer and a tally that are those of the n-th call
  pub record LastAt (n : ℕ) (a : Answer) (x : Tally) : Type 0 where
    pub answer : a ≡ (shown (called d s) w n).answer
    pub tally : x ≡ (behind (called d s) w n).tally

  module _ (f : Through d s w) where
    last_first : FirstAt over_at f.n
    unfolding shown
    last_first = (f.over, f.before)

    last_tally : (handed (called d s (after (called d s) f.n w)) []).walk.tally ≡ (behind (called d s) w f.n).tally
    unfolding handed
    last_tally = ap (λ (v : Walk). v.tally) (sym (after_suc (called d s) f.n w))

    -- what `through` owes, and what `count` does
    pub through_last : (r : Looked) → told r [] ≡ through_of d s w → LastAt f.n r.answer r.walk.tally
    unfolding handed shown
    through_last r owes =
        let tells = owes ∙ f.tells in
        record { answer = paper_injective _ _ (ap (λ (x : Told). x.said) tells); tally = ap (λ (x : Told). x.walk.tally) tells ∙ last_tally }

    pub count_last : (r : Counted) → counts r ≡ counts_of (through_of d s w) → LastAt f.n r.answer r.tally
    unfolding handed shown
    count_last r owes =
        let tells = owes ∙ ap counts_of f.tells in
        record { answer = paper_injective _ _ (ap (λ (x : Counts). x.said) tells); tally = ap (λ (x : Counts). x.tally) tells ∙ last_tally }

-- ## Two whole walks

module _ (d : Definition) (s s' : List ℕ) (w w' : Walk) (f : Through d s w) (f' : Through d s' w') (b b' : ℕ) (t t' : Tally)
    (alike : (n : ℕ) → Same b b' (outline (shown (called d s) w n)) (outline (shown (called d s') w' n)))
    (level : (n : ℕ) → Level b b' t t' (behind (called d s) w n).tally (behind (called d s') w' n).tally) where
  one_last : f'.n ≡ f.n
  one_last =
      sym (first_same (over_at d s w) (over_at d s' w') (λ m. over_alike b b' (shown (called d s) w m) (shown (called d s') w' m) (alike m)) f.n f'.n
      (last_first d s w f) (last_first d s' w' f'))

  pub end_alike : {a a' : Answer} {x x' : Tally} → LastAt d s w f.n a x → LastAt d s' w' f'.n a' x' → EndAlike b b' t t' a a' x x'
  end_alike l l' =
      let over' : over_at d s' w' f.n ≡ true = ap (over_at d s' w') (sym one_last) ∙ (last_first d s' w' f').0 in (
        rw (l.answer, l'.answer ∙ ap (λ m. (shown (called d s') w' m).answer) one_last)
            (over_same b b' (shown (called d s) w f.n) (shown (called d s') w' f.n) (alike f.n) (last_first d s w f).0 over'),
        rw (l.tally, l'.tally ∙ ap (λ m. (behind (called d s') w' m).tally) one_last) (level f.n),
      )
