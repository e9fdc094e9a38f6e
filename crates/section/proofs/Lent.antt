-- Walks in parts: what is told of them, and a history that is pushed to part by part.
use Prim.Native.Nat.{ℕ}
use mathlib.Core.List.{List, []}
use mathlib.Core.Path.{◌≡◌, ap}
use Rattle.frame.specs.declared.Head.{Head}
use Rattle.frame.specs.Parts.{frame_of}
use Rattle.history.specs.declared.Heads.{Heads}
use Rattle.history.specs.History.{pushed}
use Rattle.history.specs.Parts.{history_of, head_pushed}
use Rattle.section.specs.declared.Answer.{Answer}
use Rattle.section.specs.declared.Tally.{Tally}
use Rattle.section.specs.declared.quick.Light.{Light}
use Rattle.section.specs.declared.quick.Settled.{Settled}
use Rattle.section.specs.declared.quick.Values.{Values}
use Rattle.section.specs.declared.Walk.{Walk}
use Rattle.section.specs.Answers.{handed}
use Rattle.section.specs.Lent.{light_of, values_of, history_beside, walk_of, told_beside}
use Rattle.section.specs.Walk.{outcome}

-- an answer, with what stands in the rooms for its fields
pub settled_tells : {a : Answer} {t : Tally} {hs : Heads} {r : Settled} (v : Values)
    → r ≡ record { answer = a; walk = record { tally = t; heads = hs } }
    → told_beside r v ≡ handed (outcome a [] t (history_beside hs v)) v.fields
unfolding handed
settled_tells v e = ap (λ x. told_beside x v) e

pub push_parts : (hs : Heads) (head : Head) (values last older : List ℕ) {hs' : Heads} {last' older' : List ℕ} → hs' ≡ head_pushed hs head
    → (last' ≡ values) × (older' ≡ last) → history_of hs' last' older' ≡ pushed (history_of hs last older) (frame_of head values)
unfolding pushed
push_parts hs head values last older e moved = λ i. history_of (e i) (moved.0 i) (moved.1 i)

-- a walk taken apart and put together again
pub light_whole : (w : Walk) {l : Light} → l ≡ light_of w → {v : Values} → v ≡ values_of w → walk_of l v ≡ w
light_whole w e f = λ i. walk_of (e i) (f i)
