-- What is heard of three legs, round by round, and printed.
-- Nobody has to believe this: it serves private functions alone.
use Rattle.std.specs.Prelude.{◌≡◌, ℕ, ◌+◌, ◌-◌, ◌≤◌, nat_lt, Bool, true, false, ◌&&◌, List, [], ◌++◌, length, Option, None, Some, option_to_list, slice_index_or, ◌⊎◌}
use Rattle.tri_base.specs.declared.leg.Leg.{Leg}
use Rattle.tri_base.specs.declared.leg.Triple.{Triple}
use Rattle.tri_base.specs.Legs.{leg_part}
use Rattle.fault_history.specs.Notes.{NoteData, no_note}
use Rattle.tribus.specs.Ends.{End}
use Rattle.tribus.specs.declared.note_link.Told.{Told}
use Rattle.leg_workers.specs.declared.hearing.Listener.{Listener}
use Rattle.leg_workers.specs.declared.pages.Page.{Page}
use Rattle.leg_workers.specs.Printing.{IsPrinted}
use Rattle.leg_workers.specs.Inner.Telling.{IsTold, notes_in}

-- the notes that were heard of a leg
abbrev pub heard : Listener → List NoteData
heard l = notes_in l.out.list

-- a leg's note of its next scan is heard; or that there are no more
pub record Hears (was : Listener) (note : Option NoteData) (now : Listener) : Type 0 where
  pub link : now.out.link ≡ was.out.link
  pub notes : heard now ≡ heard was ++ option_to_list note
  pub told : IsTold was.out.list was.is_over → IsTold now.out.list now.is_over
  pub none : note ≡ None → now.is_over ≡ true
  pub over : was.is_over ≡ true → note ≡ None

-- of each of three
pub record HearsRound (was : Triple Listener) (round : Triple (Option NoteData)) (now : Triple Listener)
    : Type 0 where
  pub a : Hears was.a round.a now.a
  pub b : Hears was.b round.b now.b
  pub c : Hears was.c round.c now.c

-- the notes of a round, where each gave one
abbrev pub row_from : (a b c : Option NoteData) → Option (Triple NoteData)
row_from None b c = None
row_from (Some a) None c = None
row_from (Some a) (Some b) None = None
row_from (Some a) (Some b) (Some c) = Some (record { a = a; b = b; c = c })

-- a page takes the notes of a scan, where it may; else it is closed, and nothing is printed
abbrev pub PrintsBy : {P : Type 0} → (After : P → (scan : ℕ) → Triple NoteData → P → Type 0) → (page : Page)
    → Option (Triple NoteData) → (may : Bool) → (page' : Page) → (old new : P) → Type 0
PrintsBy After page None may page' old new = (page' ≡ record page { is_open = false }) × (new ≡ old)
PrintsBy After page (Some row) true page' old new =
    (page' ≡ record page { scan = page.scan + 1 }) × After old (page.scan + 1) row new
PrintsBy After page (Some row) false page' old new = (page' ≡ record page { is_open = false }) × (new ≡ old)

-- a page may, while it is open and has room
abbrev pub may_print : Page → Bool
may_print page = page.is_open && nat_lt page.scan page.scans

-- the notes of a scan in what was heard
abbrev pub note_at : List Told → (scan : ℕ) → NoteData
note_at told scan = slice_index_or (notes_in told) (scan - 1) no_note

-- the notes of a scan that were heard of three
abbrev pub notes_at : Triple (End Told) → (scan : ℕ) → Triple NoteData
notes_at told scan = record {
  a = note_at told.a.list scan;
  b = note_at told.b.list scan;
  c = note_at told.c.list scan;
}

-- the ends at which three listeners hear
abbrev pub outs_of : Triple Listener → Triple (End Told)
outs_of ears = record { a = ears.a.out; b = ears.b.out; c = ears.c.out }

-- the page has what was heard of all three; it is closed once one of them has no more, or where the play has no more
-- scans
pub record HasPrinted {P : Type 0} (After : P → (scan : ℕ) → Triple NoteData → P → Type 0) (was : Triple (End Told))
    (ears : Triple Listener) (page : Page) (old new : P) : Type 0 where
  pub link : (x : Leg) → (leg_part ears x).out.link ≡ (leg_part was x).link
  pub told : (x : Leg) → IsTold (leg_part ears x).out.list (leg_part ears x).is_over
  pub printed : IsPrinted After (notes_at (outs_of ears)) page.scan old new
  pub enough : (x : Leg) → page.scan ≤ length (heard (leg_part ears x))
  pub open_so : page.is_open ≡ true → (x : Leg) → length (heard (leg_part ears x)) ≡ page.scan
  pub closed : page.is_open ≡ false
      → (page.scans ≤ page.scan)
      ⊎ ((x : Leg) × ((leg_part ears x).is_over ≡ true) × (length (heard (leg_part ears x)) ≡ page.scan))

-- three legs were heard to the end, and printed as long as each gave a note
pub record ArePrinted {P : Type 0} (After : P → (scan : ℕ) → Triple NoteData → P → Type 0) (scans : ℕ)
    (was now : Triple (End Told)) (old new : P) : Type 0 where
  pub number : ℕ
  pub link : (x : Leg) → (leg_part now x).link ≡ (leg_part was x).link
  pub told : (x : Leg) → IsTold (leg_part now x).list true
  pub printed : IsPrinted After (notes_at now) number old new
  pub enough : (x : Leg) → number ≤ length (notes_in (leg_part now x).list)
  pub least : (scans ≤ number) ⊎ ((x : Leg) × (length (notes_in (leg_part now x).list) ≡ number))

-- nothing was heard yet
abbrev pub NothingHeard : Triple (End Told) → Type 0
NothingHeard ends = (x : Leg) → (leg_part ends x).list ≡ []

-- three listeners at ends, of which nothing is over
abbrev pub listeners_at : Triple (End Told) → Triple Listener
listeners_at ends = record {
  a = record { out = ends.a; is_over = false };
  b = record { out = ends.b; is_over = false };
  c = record { out = ends.c; is_over = false };
}

-- of each there are no more notes
pub record AreOver (ears : Triple Listener) : Type 0 where
  pub a : ears.a.is_over ≡ true
  pub b : ears.b.is_over ≡ true
  pub c : ears.c.is_over ≡ true

-- three legs of which nothing was heard before were heard to the end, and printed
pub record PrintsAll {P : Type 0} (After : P → (scan : ℕ) → Triple NoteData → P → Type 0) (scans : ℕ)
    (was now : Triple (End Told)) (old new : P) : Type 0 where
  pub printed : NothingHeard was → ArePrinted After scans was now old new
