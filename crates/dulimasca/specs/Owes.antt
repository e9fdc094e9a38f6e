-- What each function that C calls owes: its answer, and the content of what was lent, before and after it.
use Rattle.std.specs.Prelude.{ℕ, List, [], ◌≡◌}
use Rattle.dulimasca.specs.Calls.{RowsReply, count_of, fill_of, rows_of}
use Rattle.dulimasca.specs.Define.{settings_of, define_of, start_of, name_of}
use Rattle.dulimasca.specs.Told.{reply}

abbrev pub SettingsOwes : (log buf : List ℕ) → (answer : ℕ) → (buf' : List ℕ) → Type 0
SettingsOwes log buf r buf' = reply r buf' [] ≡ settings_of log buf

abbrev pub DefineOwes : (log chosen buf told : List ℕ) → (answer : ℕ) → (buf' told' : List ℕ) → Type 0
DefineOwes log chosen buf told r buf' told' = reply r buf' told' ≡ define_of log chosen buf told

abbrev pub StartOwes : (state told : List ℕ) → (answer : ℕ) → (state' told' : List ℕ) → Type 0
StartOwes st told r st' told' = reply r st' told' ≡ start_of st told

abbrev pub CountOwes : (def s told : List ℕ) → (answer : ℕ) → (told' : List ℕ) → Type 0
CountOwes def s told r told' = reply r [] told' ≡ count_of def s told

abbrev pub FillOwes : (def s : List ℕ) → (kind k : ℕ) → (out told : List ℕ) → (answer : ℕ) → (out' told' : List ℕ) → Type 0
FillOwes def s kind k out told r out' told' = reply r out' told' ≡ fill_of def s kind k out told

abbrev pub RowsOwes : (def st s out told : List ℕ) → (answer : ℕ) → (st' out' told' : List ℕ) → Type 0
RowsOwes def st s out told r st' out' told' =
    ◌≡◌ {A = RowsReply} (record { answer = r; state = st'; out = out'; told = told' }) (rows_of def st s out told)

abbrev pub NameOwes : (def : List ℕ) → (kind : ℕ) → (main slow : List ℕ) → (k : ℕ) → (told : List ℕ) → (answer : ℕ) → (told' : List ℕ) → Type 0
NameOwes def kind main slow k told r told' = reply r [] told' ≡ name_of def kind main slow k told
