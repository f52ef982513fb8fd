-- A leg that tells its notes over a link while it is worked.
-- Nobody has to believe this: it serves private functions alone.
use Rattle.std.specs.Prelude.{◌≡◌, ◌+◌, Bool, true, false, List, [], ◌∷◌, ◌++◌, length, ◌⊎◌}
use Rattle.tri_base.specs.declared.leg.Triple.{Triple}
use Rattle.tri_base.specs.declared.point.Point.{Point}
use Rattle.engine_face.specs.Meaning.{Meaning}
use Rattle.fault_history.specs.Notes.{NoteData, note_data}
use Rattle.leg_laws.specs.declared.need.Need.TheVariants.{Done}
use Rattle.leg_laws.specs.Configs.{LegValue, is_starved, need_of}
use Rattle.tribus.specs.Ends.{End}
use Rattle.tribus.specs.Posts.{PostValue}
use Rattle.tribus.specs.declared.note_link.Told.{Told}
use Rattle.tribus.specs.declared.note_link.Told.TheVariants.{Scan, Over}
use Rattle.leg_workers.specs.Working.{IsKept, LegAtPost}

-- a leg at its post, the end of the link over which it tells, and whether it told that there are no more notes
pub record TellerValue : Type 0 where
  pub leg : LegValue
  pub post : PostValue
  pub told : End Told
  pub over : Bool

-- the notes in what was told
abbrev pub notes_in : List Told → List NoteData
notes_in [] = []
notes_in (Scan note ∷ more) = note_data note ∷ notes_in more
notes_in (Over ∷ more) = notes_in more

-- what was told are notes, and at the end, where it is over, that there are no more
abbrev pub IsTold : List Told → (over : Bool) → Type 0
IsTold [] over = over ≡ false
IsTold (Scan note ∷ more) over = IsTold more over
IsTold (Over ∷ more) over = (more ≡ []) × (over ≡ true)

-- a leg that has no note and makes none any more
abbrev pub MakesNoMore : LegValue → Type 0
MakesNoMore v = (v.notes ≡ []) × ((is_starved v ≡ true) ⊎ (need_of v ≡ Done))

-- it is over only where the leg makes no more
pub record IsFair (t : TellerValue) : Type 0 where
  pub told : IsTold t.told.list t.over
  pub no_more : t.over ≡ true → MakesNoMore t.leg

-- the leg as though none of its notes had been taken away
abbrev pub with_told : TellerValue → LegAtPost
with_told t = (record t.leg { given = 0; notes = notes_in t.told.list ++ t.leg.notes }, t.post)

-- the leg was worked, and the notes that were taken from it were told over its link
pub record TellsOn (m : List Point → Meaning) (was now : TellerValue) : Type 0 where
  pub kept : IsKept m (with_told was) (with_told now)
  pub link : now.told.link ≡ was.told.link
  pub given : now.leg.given + length (notes_in was.told.list) ≡ was.leg.given + length (notes_in now.told.list)
  pub fair : IsFair was → IsFair now

-- that, and where it is over since, the leg is done
pub record IsBack (m : List Point → Meaning) (was now : TellerValue) : Type 0 where
  pub tells : TellsOn m was now
  pub done : was.over ≡ false → now.over ≡ true → need_of now.leg ≡ Done

-- the leg is done
abbrev pub IsAtEnd : TellerValue → Type 0
IsAtEnd t = need_of t.leg ≡ Done

-- the legs, the posts and the links' ends of three
abbrev pub legs_of : Triple TellerValue → Triple LegValue
legs_of ts = record { a = ts.a.leg; b = ts.b.leg; c = ts.c.leg }

abbrev pub posts_of : Triple TellerValue → Triple PostValue
posts_of ts = record { a = ts.a.post; b = ts.b.post; c = ts.c.post }

abbrev pub tolds_of : Triple TellerValue → Triple (End Told)
tolds_of ts = record { a = ts.a.told; b = ts.b.told; c = ts.c.told }

-- three legs at their posts that have told nothing
abbrev pub tellers_at : Triple LegValue → Triple PostValue → Triple (End Told) → Triple TellerValue
tellers_at legs posts ins = record {
  a = record { leg = legs.a; post = posts.a; told = ins.a; over = false };
  b = record { leg = legs.b; post = posts.b; told = ins.b; over = false };
  c = record { leg = legs.c; post = posts.c; told = ins.c; over = false };
}

-- each of three is back
pub record AreBack (m : List Point → Meaning) (was now : Triple TellerValue) : Type 0 where
  pub a : IsBack m was.a now.a
  pub b : IsBack m was.b now.b
  pub c : IsBack m was.c now.c
