-- The history: what legs were judged, where it tells of a fault or of its end. Own rule.
use Rattle.std.specs.Prelude.{◌≡◌, ℕ, ◌-◌, Bool, true, false, List, [], ◌∷◌, ◌++◌, length, drop, filter, if◌then◌else◌}
use Rattle.std.specs.List.{fold}
use Rattle.tri_base.specs.declared.judged.Judged.{Judged}
use Rattle.tri_base.specs.declared.judged.Judged.TheVariants.{Agrees, Accuses, Minority, NoVote, Waiting, Learned, Ready, Rejected}
use Rattle.fault_history.specs.declared.history.Entry.{Entry}

-- How many entries are kept.
abbrev pub history_limit : ℕ
history_limit = 64

-- Agreement and the scans of learning that end nothing are not kept.
abbrev pub is_kept : Judged → Bool
is_kept Agrees = false
is_kept (Accuses leg) = true
is_kept Minority = true
is_kept NoVote = true
is_kept Waiting = false
is_kept (Learned windows) = false
is_kept Ready = true
is_kept Rejected = true

-- The last entries, as many as are kept.
abbrev pub last_entries : List Entry → List Entry
last_entries entries = drop (length entries - history_limit) entries

-- The history after one more judgement.
abbrev pub note_of : List Entry → Entry → List Entry
note_of entries entry = if is_kept entry.judged then last_entries (entries ++ entry ∷ []) else entries

-- However many judgements are noted one after another, the history is the last of those that are kept.
abbrev pub KeepsTheLast : Type 0
KeepsTheLast =
    (entries : List Entry) → fold note_of [] entries ≡ last_entries (filter (λ e. is_kept e.judged) entries)
