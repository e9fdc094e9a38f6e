-- Demand 3 on worked pairs of sections: a newer flight with the tail of an older one behind it,
-- and for each premise a pair that misses it and has other frames.
use Rattle.std.specs.Prelude.{ℕ, true, List, [], ◌∷◌, ◌++◌, ◌≡◌, length, Some}
use Rattle.items.specs.Text.{ascii}
use Rattle.plan.specs.declared.Definition.{Definition}
use Rattle.reader.specs.declared.Kind.TheVariants.{Intra}
use Rattle.section.specs.declared.Answer.TheVariants.{Rejected}
use Rattle.section.specs.declared.Walk.{Walk}
use Rattle.section.specs.Refusals.{admitted}
use Rattle.section.specs.Walk.{start, tick}
use Rattle.calls.specs.Call.{called}
use Rattle.walks.specs.Walks.{after_calls}
use Rattle.resync.specs.Code.{Demand3Code}
use Rattle.resync.specs.Demand3.{Tries, IntraAlone, InterByLast, Demand3}
use Rattle.resync.specs.From.{Same, frame_at}
use Rattle.resync.specs.Runs.{Shown, shown, is_intra, is_inter}
use Rattle.cases.specs.Walks.{by_lists_a, made_of}

-- "Take two sections under one definition with its header numbers that end in the same bytes": `pre ++ c` and `pre' ++ c`.
-- Both walks begin at their section's start; so many calls come before the one that tries a frame at the first byte of `c`.
pub record Pair : Type 0 where
  pub definition : Definition
  pub pre : List ℕ
  pub pre' : List ℕ
  pub c : List ℕ
  pub before : ℕ
  pub before' : ℕ

abbrev pub section : Pair → List ℕ
section p = p.pre ++ p.c

abbrev pub section' : Pair → List ℕ
section' p = p.pre' ++ p.c

abbrev pub walk : Pair → Walk
walk p = after_calls p.before p.definition (section p) start

abbrev pub walk' : Pair → Walk
walk' p = after_calls p.before' p.definition (section' p) start

-- "and let both walks try a frame at the first of these"
pub record Try (p : Pair) : Type 0 where
  pub tries : Tries p.definition (section p) (walk p) (length p.pre)
  pub tries' : Tries p.definition (section' p) (walk' p) (length p.pre')

-- what the n-th calls from there show, from 0
abbrev pub shows : Pair → (n : ℕ) → Shown
shows p = shown (called p.definition (section p)) (walk p)

abbrev pub shows' : Pair → (n : ℕ) → Shown
shows' p = shown (called p.definition (section' p)) (walk' p)

-- they are equal: the same frame at the same place of `c`, or the same ending
abbrev pub Equal : Pair → (n : ℕ) → Type 0
Equal p n = Same (length p.pre) (length p.pre') (shows p n) (shows' p n)

abbrev pub IntraAt : Pair → (n : ℕ) → Type 0
IntraAt p n = is_intra (shows p n).answer ≡ true

abbrev pub InterAt : Pair → (n : ℕ) → Type 0
InterAt p n = is_inter (shows p n).answer ≡ true

-- demand 3 for a pair, of the definition and of the code, and what it comes to: every call from there shows the same
pub record AllEqual (p : Pair) : Type 0 where
  pub try : Try p
  pub demand3 : Demand3 p.definition p.pre p.pre' p.c (walk p) (walk' p) try.tries try.tries'
  pub code : Demand3Code p.definition p.pre p.pre' p.c (walk p) (walk' p) try.tries try.tries'
  pub equal : (n : ℕ) → Equal p n

-- and no run is refused
abbrev pub Admitted : Pair → Type 0
Admitted p = (admitted p.definition (length (section p)) (walk p) ≡ true) × (admitted p.definition (length (section' p)) (walk' p) ≡ true)

-- a pair whose n-th frames have other fields, here and there
pub record Differ (p : Pair) (n : ℕ) (here there : List ℕ) : Type 0 where
  pub try : Try p
  pub fields : (shows p n).fields ≡ here
  pub fields' : (shows' p n).fields ≡ there
  pub differ : Equal p n → ⊥

-- ## Two flights

-- Document 01's lists: the only field has predictor 8 in intra frames and 1 in inter frames.
abbrev pub BothRules : Type 0
BothRules = IntraAlone by_lists_a × InterByLast by_lists_a

-- three frames of a newer flight
abbrev newer : List ℕ
newer = 0x49 ∷ 0xC0 ∷ 0xB8 ∷ 0x02 ∷ 0xC8 ∷ 0xE9 ∷ 0x92 ∷ 0x26 ∷ 0xF7 ∷ 0x05 ∷ 0x50 ∷ 0xA0 ∷ 0x1F ∷ 0x3C ∷ 0x50 ∷ 0x00 ∷ 0x5A ∷ []

-- the same with the power cut inside the fourth, an intra frame
abbrev cut_off : List ℕ
cut_off = newer ++ 0x49 ∷ 0xC3 ∷ 0xB8 ∷ []

-- an older flight: an intra frame and an inter frame, but for the last two bytes of that
abbrev older : List ℕ
older = 0x49 ∷ 0xDC ∷ 0x5D ∷ 0xA4 ∷ 0xAE ∷ 0xB8 ∷ 0x0B ∷ 0xA5 ∷ 0x09 ∷ 0x50 ∷ 0x9E ∷ 0x1F ∷ []

-- these two bytes, and two inter frames
abbrev between : List ℕ
between = 0x8E ∷ 0x06 ∷ 0x50 ∷ 0x06 ∷ 0x07 ∷ 0x50 ∷ 0x05 ∷ 0x00 ∷ []

-- its next intra frame, two inter frames and the closing event
abbrev tail : List ℕ
tail =
    0x49 ∷ 0xE0 ∷ 0x5D ∷ 0xE4 ∷ 0xEC ∷ 0xB8 ∷ 0x0B ∷ 0x8F ∷ 0x03 ∷ 0x50 ∷ 0xA2 ∷ 0x1F ∷ 0xEB ∷ 0x04 ∷ 0x50 ∷ 0x00 ∷ 0x17
    ∷ 0x45 ∷ 0xFF ∷ ascii "End of log" ++ 0x00 ∷ []

-- the sections of examples/newer-flight.log and examples/older-flight.log
abbrev pub newer_older : Pair
newer_older = record { definition = by_lists_a; pre = newer; pre' = older ++ between; c = tail; before = 3; before' = 4 }

-- those of examples/power-cut.log and examples/older-flight.log
abbrev pub cut_older : Pair
cut_older = record { definition = by_lists_a; pre = cut_off ++ between; pre' = older ++ between; c = tail; before = 3; before' = 4 }

-- The intra frame, both inter frames and the closing event behind it are equal, with these fields, and so are the endings.
abbrev pub Flights : Pair → Type 0
Flights p = IntraAt p 0 × ((shows p 0).fields ≡ 1300 ∷ []) × ((shows p 1).fields ≡ 990 ∷ []) × ((shows p 2).fields ≡ 978 ∷ []) × Admitted p × AllEqual p

-- the frame that a look or a call shows stands at this place
abbrev At : Shown → ℕ → Type 0
At x p = frame_at x.answer ≡ Some p

-- Here the bytes in common begin earlier. The walk of the cut section rejects its trial at 17 and searches over the two inter frames, to the intra frame at 28;
-- that of the older flight accepts them, at 14 and 17. So the first common byte that both try is the intra frame's.
pub record CommonEarlier : Type 0 where
  pub ends : section cut_older ≡ cut_off ++ (between ++ tail)
  pub ends' : section' cut_older ≡ older ++ (between ++ tail)
  pub rejects : (shown (tick by_lists_a (section cut_older)) (walk cut_older) 0).answer ≡ Rejected Intra 17
  pub searches : At (shown (tick by_lists_a (section cut_older)) (walk cut_older) 1) 28
  pub accepts : At (shown (called by_lists_a (section' cut_older)) start 2) 14 × At (shown (called by_lists_a (section' cut_older)) start 3) 17

-- ## Each premise is needed

-- one field of encoding 0, with these predictors in intra and inter frames
abbrev predicted : (intra inter : ℕ) → Definition
predicted p q = made_of 3 0 p q 0

-- an intra frame with this byte as its field, iteration and time 0; an inter frame with raw numbers 0
abbrev I : ℕ → List ℕ
I b = 0x49 ∷ 0x00 ∷ 0x00 ∷ b ∷ []

abbrev P : List ℕ
P = 0x50 ∷ 0x00 ∷ 0x00 ∷ []

-- one intra frame before the common bytes: its raw number is 5 here and 10 there
abbrev behind_one : Definition → (c : List ℕ) → Pair
behind_one d c = record { definition = d; pre = I 0x0A; pre' = I 0x14; c = c; before = 1; before' = 1 }

-- "If the intra lists use none of predictors 1, 2, 3 and 6, every intra frame from there is equal."
-- Predictor 1 in intra frames, a raw number of 1: the intra frame is 6 here and 11 there.
abbrev pub intra_by_one : Pair
intra_by_one = behind_one (predicted 1 1) (I 0x02)

abbrev pub AloneNeeded : Type 0
AloneNeeded = (IntraAlone intra_by_one.definition → ⊥) × IntraAt intra_by_one 0 × Differ intra_by_one 0 (6 ∷ []) (11 ∷ [])

-- "Under that rule, once two intra frames were accepted there with no inter frame between, all later frames are equal."
-- Predictor 3 in inter frames, the mean of the two frames before.
-- An inter frame between the intra frames 20 and 30 is 12 or 15, and the one behind them 21 or 22.
abbrev pub parted : Pair
parted = behind_one (predicted 0 3) (I 0x28 ++ P ++ I 0x3C ++ P)

abbrev pub NoneBetweenNeeded : Type 0
NoneBetweenNeeded = IntraAlone parted.definition × IntraAt parted 0 × InterAt parted 1 × IntraAt parted 2 × Differ parted 3 (21 ∷ []) (22 ∷ [])

-- With none between all are equal: the mean of 20 and 30 is 25 here and there.
abbrev pub together : Pair
together = behind_one (predicted 0 3) (I 0x28 ++ I 0x3C ++ P)

abbrev pub NoneBetween : Type 0
NoneBetween = IntraAt together 0 × IntraAt together 1 × ((shows together 2).fields ≡ 25 ∷ []) × AllEqual together

-- "If the inter lists use 2 and 3 in no field after time, one intra frame suffices."
-- The same definition, which uses 3: behind one intra frame the inter frame is 12 here and 15 there.
abbrev pub single : Pair
single = behind_one (predicted 0 3) (I 0x28 ++ P)

abbrev pub ByLastNeeded : Type 0
ByLastNeeded = IntraAlone single.definition × (InterByLast single.definition → ⊥) × IntraAt single 0 × Differ single 1 (12 ∷ []) (15 ∷ [])

-- ## All of them

pub record Worked : Type 0 where
  pub rules : BothRules
  pub newer_flight : Flights newer_older
  pub power_cut : Flights cut_older
  pub common_earlier : CommonEarlier
  pub alone_needed : AloneNeeded
  pub none_between_needed : NoneBetweenNeeded
  pub none_between : NoneBetween
  pub by_last_needed : ByLastNeeded
