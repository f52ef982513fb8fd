-- What lines come to, where they come to a script, is what holds of every script: line by line.
use Rattle.std.proofs.Common.{◌≡◌, ℕ, ℤ, pos, negsuc, ◌+◌, ◌≤◌, Bool, true, false, List, [], ◌∷◌, ◌++◌, fold, length, nat_le, ◌&&◌, ◌||◌, Option, Some, None, option_map, Result, Ok, Err, refl, sym, ap, ◌∙◌, subst, arith, slice_get, codes}
use Rattle.std.specs.Bool.{if◌then◌else◌}
use Rattle.std.specs.Option.{option_and_then}
use Rattle.std.specs.List.{list_all}
use Rattle.std.proofs.lemmas.Bool.{leb-true}
use Rattle.std.specs.Str.{bytes_eq}
use Rattle.tri_base.specs.Numbers.{number_of}
use Rattle.tri_base.specs.Names.{name_of}
use Rattle.tri_base.specs.declared.leg.Leg.{Leg}
use Rattle.tri_base.specs.declared.leg.Side.{Side}
use Rattle.tri_base.specs.declared.leg.Triple.{Triple}
use Rattle.tri_base.specs.declared.point.Point.{Point}
use Rattle.tri_base.specs.declared.point.PointKind.TheVariants.{Di, Do}
use Rattle.chassis.specs.declared.points.ChassisFault.{ChassisFault}
use Rattle.chassis.specs.Points.{refusal_of, place_of, is_input_kind}
use Rattle.script_lines.specs.declared.keyword.Keyword.{Keyword}
use Rattle.script_lines.specs.declared.keyword.Keyword.TheVariants.{Tricon, Point as PointWord, Text as TextWord, Schedule as ScheduleWord, Scans as ScansWord, At as AtWord, Set as SetWord, Time as TimeWord, Download as DownloadWord, Mute as MuteWord, Poke as PokeWord, Replace as ReplaceWord, Swap as SwapWord, Read as ReadWord, Result as ResultWord, Drive as DriveWord, Rename as RenameWord, Ask as AskWord, End as EndWord}
use Rattle.script_lines.specs.declared.keyword.Part.{Part}
use Rattle.script_lines.specs.declared.keyword.Part.TheVariants.{Heading as HeadingPart, Plant, Program as ProgramPart, Order as OrderPart, Count, Moment as MomentPart, Inside, Ended}
use Rattle.script_lines.specs.declared.statement.Statement.{Statement}
use Rattle.script_lines.specs.declared.statement.Statement.TheVariants.{Heading, Point as PointLine, Text, Schedule, Scans, At, Set, Time, Download, Mute, Poke, Replace, Swap, Read, Result as ResultLine, Drive, Rename, Ask, End}
use Rattle.script_lines.specs.Lines.{content_of, ended}
use Rattle.script_lines.specs.Order.{keyword_of, part_of, may_follow}
use Rattle.script_lines.specs.Statements.{statement_of, begins_comment, numbers_of, triple, point, discrete, discrete_point, analogue_input, input_point, analogue_output, output_point, single_number, sided_of, sided_leg, sided, leg_of, side_of, single_leg, legs_of, hex_bytes}
use Rattle.script_lines.specs.Words.{words_of}
use Rattle.script_text.specs.declared.fault.ScriptCause.{ScriptCause}
use Rattle.script_text.specs.declared.fault.ScriptCause.TheVariants.{Word, Range, Second, Point as PointCause}
use Rattle.script_text.specs.declared.moment.Opener.{Opener}
use Rattle.script_text.specs.declared.moment.Opener.TheVariants.{Program, Download as DownloadBlock, Swap as SwapBlock}
use Rattle.script_text.specs.declared.moment.ScanLine.{ScanLine}
use Rattle.script_text.specs.declared.moment.ScanLine.TheVariants.{Set as SetLine, Time as TimeLine, Download as DownloadLine, Mute as MuteLine, Poke as PokeLine, Replace as ReplaceLine, Swap as SwapLine, Read as ReadLine, Result as ResultWords, Drive as DriveLine}
use Rattle.script_text.specs.MomentValue.{MomentValue}
use Rattle.script_text.specs.Standing.{Standing, beginning, address_limit, with_last, with_line, with_rename, with_ask, inside, line_added, opening, count_within, all_within, new_moment, is_time, pointed, scans_to, at_scan, set_input, set_point, timed, poked, download, stated, shaped, is_prepared, may_stand, worded, outside, closed, blocked, placed, numbered}
use Rattle.script_text.specs.Spells.{goes_on, come_to, contents_of, script_in}
use Rattle.script_text.specs.IsScript.{is_byte, IsShort, AllShort, IsShortTriple, Writable, IsPlant, IsBlock, IsLine, is_download, downloads, IsRequest, IsMoment, AreMoments, IsScript}
use Rattle.script_text.proofs.LineFacts.{both, no_feed, AreContents, contents_are, all_bytes, contents_bytes}
use Rattle.script_text.proofs.Orders.{has_scans, is_early, is_late, early, late}
use Rattle.script_text.proofs.Reaches.{Given, given_map, given_then, given_when, given_at, short_number, read_name, good_numbers, good_triple, good_request, plant_more, block_more, moment_line, moment_rename, moment_ask, downloads_more, LastDoes, LastIs, moment_more, last_more, does_more, changed, does, last_changed, setting_is}
use Rattle.tri_base.specs.Limits.{scan_limit}

-- ---- what a line says by itself

abbrev word_of : Statement → Keyword
word_of Heading = Tricon
word_of (PointLine point) = PointWord
word_of Text = TextWord
word_of (Schedule legs) = ScheduleWord
word_of (Scans n) = ScansWord
word_of (At n) = AtWord
word_of (Set name reads) = SetWord
word_of (Time reads) = TimeWord
word_of Download = DownloadWord
word_of (Mute leg) = MuteWord
word_of (Poke leg address value) = PokeWord
word_of (Replace leg) = ReplaceWord
word_of (Swap leg) = SwapWord
word_of (Read leg side numbers) = ReadWord
word_of (ResultLine leg side numbers) = ResultWord
word_of (Drive leg numbers) = DriveWord
word_of (Rename old new) = RenameWord
word_of (Ask bytes) = AskWord
word_of End = EndWord

-- what is known of what it says
abbrev Sound : Statement → Type 0
Sound (PointLine p) = (name_of p.name ≡ Some p.name) × Writable p.kind p
Sound (Set name reads) = IsShortTriple reads
Sound (Poke leg address value) = IsShort value
Sound (Read leg side numbers) = AllShort numbers
Sound (ResultLine leg side numbers) = AllShort numbers
Sound (Drive leg numbers) = AllShort numbers
Sound (Rename old new) = (name_of old ≡ Some old) × (name_of new ≡ Some new)
Sound (Ask bytes) = IsRequest bytes
Sound statement = Unit {0}

abbrev IsOf : Keyword → Statement → Type 0
IsOf k st = (word_of st ≡ k) × Sound st

abbrev GoodPoint : Point → Type 0
GoodPoint p = (name_of p.name ≡ Some p.name) × Writable p.kind p

good_di : (words : List (List ℕ)) → Given GoodPoint (discrete Di words)
good_di [] = tt
good_di (n ∷ m ∷ words) = tt
good_di (n ∷ []) = given_map GoodPoint (λ name. discrete_point Di name) (name_of n) (λ name e. (read_name n name e, (refl, refl, refl)))

good_do : (words : List (List ℕ)) → Given GoodPoint (discrete Do words)
good_do [] = tt
good_do (n ∷ m ∷ words) = tt
good_do (n ∷ []) = given_map GoodPoint (λ name. discrete_point Do name) (name_of n) (λ name e. (read_name n name e, (refl, refl, refl)))

good_ai : (words : List (List ℕ)) → Given GoodPoint (analogue_input words)
good_ai [] = tt
good_ai (n ∷ []) = tt
good_ai (n ∷ l ∷ []) = tt
good_ai (n ∷ l ∷ u ∷ []) = tt
good_ai (n ∷ l ∷ u ∷ t ∷ w ∷ words) = tt
good_ai (n ∷ l ∷ u ∷ t ∷ []) =
    given_then GoodPoint (λ name. option_and_then (λ low. option_and_then (λ high. option_map (λ tolerance. input_point name low high tolerance) (number_of t)) (number_of u)) (number_of l)) (name_of n) (λ name e.
    given_then GoodPoint (λ low. option_and_then (λ high. option_map (λ tolerance. input_point name low high tolerance) (number_of t)) (number_of u)) (number_of l) (λ low f.
    given_then GoodPoint (λ high. option_map (λ tolerance. input_point name low high tolerance) (number_of t)) (number_of u) (λ high g.
    given_map GoodPoint (λ tolerance. input_point name low high tolerance) (number_of t) (λ tolerance h.
    (read_name n name e, (short_number l low f, short_number u high g, short_number t tolerance h))))))

good_ao : (words : List (List ℕ)) → Given GoodPoint (analogue_output words)
good_ao [] = tt
good_ao (n ∷ []) = tt
good_ao (n ∷ l ∷ []) = tt
good_ao (n ∷ l ∷ u ∷ w ∷ words) = tt
good_ao (n ∷ l ∷ u ∷ []) =
    given_then GoodPoint (λ name. option_and_then (λ low. option_map (λ high. output_point name low high) (number_of u)) (number_of l)) (name_of n) (λ name e.
    given_then GoodPoint (λ low. option_map (λ high. output_point name low high) (number_of u)) (number_of l) (λ low f.
    given_map GoodPoint (λ high. output_point name low high) (number_of u) (λ high g.
    (read_name n name e, (short_number l low f, short_number u high g, refl)))))

good_point : (words : List (List ℕ)) → Given GoodPoint (point words)
good_point [] = tt
good_point (k ∷ words) = by (bytes_eq k (codes "DI")) (bytes_eq k (codes "AI")) (bytes_eq k (codes "DO")) (bytes_eq k (codes "AO"))
  where
    by : (a b c d : Bool) → Given GoodPoint (if a then discrete Di words else if b then analogue_input words else if c then discrete Do words else if d then analogue_output words else None)
    by true b c d = good_di words
    by false true c d = good_ai words
    by false false true d = good_do words
    by false false false true = good_ao words
    by false false false false = tt

good_sided : (words : List (List ℕ)) → Given (λ t. AllShort t.2) (sided_of words)
good_sided [] = tt
good_sided (l ∷ words) = given_then (λ t. AllShort t.2) (λ leg. sided_leg leg words) (leg_of l) (λ leg e. of_leg leg words)
  where
    of_side : (leg : Leg) (w : List ℕ) (words : List (List ℕ)) (o : Option Side) → Given (λ t. AllShort t.2) (sided leg w words o)
    of_side leg w words (Some side) = given_map (λ t. AllShort t.2) (λ numbers. (leg, Some side, numbers)) (numbers_of words) (λ ns e. given_at AllShort (numbers_of words) ns (good_numbers words) e)
    of_side leg w words None = given_map (λ t. AllShort t.2) (λ numbers. (leg, None, numbers)) (numbers_of (w ∷ words)) (λ ns e. given_at AllShort (numbers_of (w ∷ words)) ns (good_numbers (w ∷ words)) e)

    of_leg : (leg : Leg) (words : List (List ℕ)) → Given (λ t. AllShort t.2) (sided_leg leg words)
    of_leg leg [] = tt
    of_leg leg (w ∷ words) = of_side leg w words (side_of w)

sound : (k : Keyword) (words : List (List ℕ)) → Given (IsOf k) (statement_of k words)
sound Tricon [] = tt
sound Tricon (v ∷ []) = given_when (IsOf Tricon) (bytes_eq v (codes "1")) (Some Heading) (λ e. (refl, tt))
sound Tricon (v ∷ w ∷ words) = tt
sound PointWord words = given_map (IsOf PointWord) (λ p. PointLine p) (point words) (λ p e. (refl, given_at GoodPoint (point words) p (good_point words) e))
sound TextWord [] = (refl, tt)
sound TextWord (w ∷ words) = tt
sound ScheduleWord [] = tt
sound ScheduleWord (w ∷ []) = given_map (IsOf ScheduleWord) (λ legs. Schedule legs) (legs_of w) (λ legs e. (refl, tt))
sound ScheduleWord (w ∷ v ∷ words) = tt
sound ScansWord words = given_map (IsOf ScansWord) (λ n. Scans n) (single_number words) (λ n e. (refl, tt))
sound AtWord words = given_map (IsOf AtWord) (λ n. At n) (single_number words) (λ n e. (refl, tt))
sound SetWord [] = tt
sound SetWord (n ∷ words) = given_then (IsOf SetWord) (λ name. option_map (λ reads. Set name reads) (triple words)) (name_of n) (λ name e. given_map (IsOf SetWord) (λ reads. Set name reads) (triple words) (λ reads f. (refl, given_at IsShortTriple (triple words) reads (good_triple words) f)))
sound TimeWord words = given_map (IsOf TimeWord) (λ reads. Time reads) (triple words) (λ reads e. (refl, tt))
sound DownloadWord [] = (refl, tt)
sound DownloadWord (w ∷ words) = tt
sound MuteWord words = given_map (IsOf MuteWord) (λ leg. Mute leg) (single_leg words) (λ leg e. (refl, tt))
sound PokeWord [] = tt
sound PokeWord (l ∷ []) = tt
sound PokeWord (l ∷ a ∷ []) = tt
sound PokeWord (l ∷ a ∷ v ∷ w ∷ words) = tt
sound PokeWord (l ∷ a ∷ v ∷ []) =
    given_then (IsOf PokeWord) (λ leg. option_and_then (λ address. option_map (λ value. Poke leg address value) (number_of v)) (number_of a)) (leg_of l) (λ leg e.
    given_then (IsOf PokeWord) (λ address. option_map (λ value. Poke leg address value) (number_of v)) (number_of a) (λ address f.
    given_map (IsOf PokeWord) (λ value. Poke leg address value) (number_of v) (λ value g. (refl, short_number v value g))))
sound ReplaceWord words = given_map (IsOf ReplaceWord) (λ leg. Replace leg) (single_leg words) (λ leg e. (refl, tt))
sound SwapWord words = given_map (IsOf SwapWord) (λ leg. Swap leg) (single_leg words) (λ leg e. (refl, tt))
sound ReadWord words = given_map (IsOf ReadWord) (λ t. Read t.0 t.1 t.2) (sided_of words) (λ t e. (refl, given_at (λ t. AllShort t.2) (sided_of words) t (good_sided words) e))
sound ResultWord words = given_map (IsOf ResultWord) (λ t. ResultLine t.0 t.1 t.2) (sided_of words) (λ t e. (refl, given_at (λ t. AllShort t.2) (sided_of words) t (good_sided words) e))
sound DriveWord [] = tt
sound DriveWord (l ∷ words) = given_then (IsOf DriveWord) (λ leg. option_map (λ numbers. Drive leg numbers) (numbers_of words)) (leg_of l) (λ leg e. given_map (IsOf DriveWord) (λ numbers. Drive leg numbers) (numbers_of words) (λ ns f. (refl, given_at AllShort (numbers_of words) ns (good_numbers words) f)))
sound RenameWord [] = tt
sound RenameWord (o ∷ []) = tt
sound RenameWord (o ∷ n ∷ w ∷ words) = tt
sound RenameWord (o ∷ n ∷ []) = given_then (IsOf RenameWord) (λ old. option_map (λ new. Rename old new) (name_of n)) (name_of o) (λ old e. given_map (IsOf RenameWord) (λ new. Rename old new) (name_of n) (λ new f. (refl, (read_name o old e, read_name n new f))))
sound AskWord [] = tt
sound AskWord (d ∷ w ∷ words) = tt
sound AskWord (d ∷ []) =
    given_when (IsOf AskWord) (nat_le 2 (length d) && nat_le (length d) 520) (option_map (λ bytes. Ask bytes) (hex_bytes d)) (λ e.
    let (low, high) = both (nat_le 2 (length d)) (nat_le (length d) 520) e in
    given_map (IsOf AskWord) (λ bytes. Ask bytes) (hex_bytes d) (λ bytes f. (refl, given_at IsRequest (hex_bytes d) bytes (good_request d (leb-true 2 (length d) low) (leb-true (length d) 520 high)) f)))
sound EndWord [] = (refl, tt)
sound EndWord (w ∷ words) = tt

-- ---- what holds of what lines come to

-- before the SCANS line there is no moment; behind it the scans are 1 to 2,000
abbrev Staged : Bool → List MomentValue → ℕ → Type 0
Staged false moments scans = moments ≡ []
Staged true moments scans = (1 ≤ scans) × (scans ≤ scan_limit)

-- whether the last scan's lines have the download: not while its block is open
abbrev shown : Option Opener → Bool → Bool
shown None d = d
shown (Some Program) d = d
shown (Some (SwapBlock leg)) d = d
shown (Some DownloadBlock) d = false

abbrev Marked : Option Opener → Bool → Type 0
Marked None d = Unit {0}
Marked (Some Program) d = Unit {0}
Marked (Some (SwapBlock leg)) d = Unit {0}
Marked (Some DownloadBlock) d = d ≡ true

-- a scan's lines have a download or not
abbrev Has : Bool → MomentValue → Type 0
Has d m = downloads false m.lines ≡ d

pub record IsGood (s : Standing) : Type 0 where
  pub plant : IsPlant [] s.points
  pub text : IsBlock s.text
  pub block : IsBlock s.block
  pub stage : Staged (has_scans s.part) s.moments s.scans
  pub moments : AreMoments s.points 0 s.scans s.moments
  pub last : LastIs 0 s.moments s.last
  pub has : LastDoes (Has (shown s.opened s.downloaded)) s.moments
  pub marked : Marked s.opened s.downloaded

abbrev Good : Result Standing ScriptCause → Type 0
Good (Ok s) = IsGood s
Good (Err cause) = Unit {0}

empty_block : IsBlock []
empty_block = ([], refl, tt, refl)

within : (low high : ℕ) (z : ℤ) (k : ℕ) → count_within low high z ≡ Some k → (low ≤ k) × (k ≤ high)
within low high (negsuc n) k h = absurd (cc)
within low high (pos n) k h = by (nat_le low n) refl (nat_le n high) refl h
  where
    by : (a : Bool) → nat_le low n ≡ a → (b : Bool) → nat_le n high ≡ b → (if a && b then Some n else None) ≡ Some k → (low ≤ k) × (k ≤ high)
    by false e b f h = absurd (cc)
    by true e false f h = absurd (cc)
    by true e true f h = let same : n ≡ k = cc in (grind (arith, e), grind (arith, f))

no_moments : (s : Standing) (q : Part) → IsGood s → may_follow s.part q ≡ true → is_early q ≡ true → s.moments ≡ []
no_moments s q h may e = subst (λ t. Staged t s.moments s.scans) (early s.part q may e) h.stage

some_scans : (s : Standing) (q : Part) → IsGood s → may_follow s.part q ≡ true → is_late q ≡ true → (1 ≤ s.scans) × (s.scans ≤ scan_limit)
some_scans s q h may e = subst (λ t. Staged t s.moments s.scans) (late s.part q may e) h.stage

-- another part alone
part_kept : (s : Standing) (p : Part) → IsGood s → Staged (has_scans p) s.moments s.scans → IsGood (record s { part = p })
part_kept s p h stage = record { plant = h.plant; text = h.text; block = h.block; stage = stage; moments = h.moments; last = h.last; has = h.has; marked = h.marked }

-- a block that opens, and is no download's
block_opens : (s : Standing) (p : Part) (o : Opener) → IsGood s → s.opened ≡ None → Staged (has_scans p) s.moments s.scans → shown (Some o) s.downloaded ≡ s.downloaded → Marked (Some o) s.downloaded → IsGood (opening s p o)
block_opens s p o h out stage same marked = record {
  plant = h.plant;
  text = h.text;
  block = empty_block;
  stage = stage;
  moments = h.moments;
  last = h.last;
  has = subst (λ d. LastDoes (Has d) s.moments) (ap (λ o. shown o s.downloaded) out ∙ sym same) h.has;
  marked = marked;
}

-- a change of the last moment
moment_kept : (s : Standing) (change : MomentValue → MomentValue) → IsGood s → s.opened ≡ None → may_follow s.part Inside ≡ true → ((m : MomentValue) → (change m).scan ≡ m.scan)
    → ((m : MomentValue) → IsMoment s.points m → Has s.downloaded m → IsMoment s.points (change m)) → ((m : MomentValue) → Has s.downloaded m → Has s.downloaded (change m)) → IsGood (inside s change)
moment_kept s change h out may same keeps still =
    let here : LastDoes (Has s.downloaded) s.moments = subst (λ d. LastDoes (Has d) s.moments) (ap (λ o. shown o s.downloaded) out) h.has in
    record {
      plant = h.plant;
      text = h.text;
      block = h.block;
      stage = some_scans s Inside h may refl;
      moments = changed s.points 0 s.scans (Has s.downloaded) change s.moments h.moments here same keeps;
      last = last_changed 0 s.last change s.moments h.last same;
      has = subst (λ d. LastDoes (Has d) (with_last change s.moments)) (sym (ap (λ o. shown o s.downloaded) out)) (does (Has s.downloaded) (Has s.downloaded) change s.moments here still);
      marked = h.marked;
    }

or_false : (d : Bool) → (d || false) ≡ d
or_false true = refl
or_false false = refl

-- a line of the scan that is no download
line_kept : (s : Standing) (line : ScanLine) → IsGood s → s.opened ≡ None → may_follow s.part Inside ≡ true → is_download line ≡ false → IsLine s.points s.downloaded line → IsGood (line_added s line)
line_kept s line h out may isnt is =
    moment_kept s (with_line line) h out may (λ m. refl)
    (λ m good has. moment_line s.points m line good (subst (λ (d : Bool). IsLine s.points d line) (sym has) is))
    (λ m has. downloads_more m.lines false line ∙ (λ i. has i || isnt i) ∙ or_false s.downloaded)

good_point_line : (s : Standing) (p : Point) (o : Option ChassisFault) → refusal_of s.points p ≡ o → GoodPoint p → IsGood s → may_follow s.part Plant ≡ true → Good (pointed s p o)
good_point_line s p (Some fault) e g h may = tt
good_point_line s p None e g h may =
    let none = no_moments s Plant h may refl in
    record {
      plant = plant_more s.points [] p h.plant e g.0 g.1;
      text = h.text;
      block = h.block;
      stage = none;
      moments = subst (λ (ms : List MomentValue). AreMoments (s.points ++ p ∷ []) 0 s.scans ms) (sym none) tt;
      last = h.last;
      has = h.has;
      marked = h.marked;
    }

good_scans : (s : Standing) (z : ℤ) (o : Option ℕ) → count_within 1 scan_limit z ≡ o → IsGood s → may_follow s.part Count ≡ true → Good (scans_to s o)
good_scans s z None e h may = tt
good_scans s z (Some n) e h may =
    let none = no_moments s Count h may refl in
    record {
      plant = h.plant;
      text = h.text;
      block = h.block;
      stage = within 1 scan_limit z n e;
      moments = subst (λ (ms : List MomentValue). AreMoments s.points 0 n ms) (sym none) tt;
      last = h.last;
      has = h.has;
      marked = h.marked;
    }

good_at : (s : Standing) (z : ℤ) (o : Option ℕ) → count_within (s.last + 1) s.scans z ≡ o → IsGood s → s.opened ≡ None → may_follow s.part MomentPart ≡ true → Good (at_scan s o)
good_at s z None e h out may = tt
good_at s z (Some k) e h out may =
    let (low, high) = within (s.last + 1) s.scans z k e in
    record {
      plant = h.plant;
      text = h.text;
      block = h.block;
      stage = some_scans s MomentPart h may refl;
      moments = moment_more s.points 0 s.scans s.last k s.moments h.moments h.last low high;
      last = last_more 0 k s.moments;
      has = subst (λ (o : Option Opener). LastDoes (Has (shown o false)) (s.moments ++ new_moment k ∷ [])) (sym out) (does_more (Has false) k s.moments refl);
      marked = subst (λ (o : Option Opener). Marked o false) (sym out) tt;
    }

good_input : (s : Standing) (name : List ℕ) (place : ℕ) (reads : Triple ℤ) (o : Option Point) → slice_get s.points place ≡ o → place_of s.points name ≡ Some place → IsGood s → s.opened ≡ None → may_follow s.part Inside ≡ true → IsShortTriple reads → Good (set_input s place reads o)
good_input s name place reads None e found h out may short = tt
good_input s name place reads (Some p) e found h out may short = by (is_input_kind p.kind) refl (all_within p reads) refl
  where
    by : (a : Bool) → is_input_kind p.kind ≡ a → (b : Bool) → all_within p reads ≡ b → Good (if a then (if b then Ok (line_added s (SetLine (record { point = place; reads = reads }))) else Err Range) else Err PointCause)
    by false x b y = tt
    by true x false y = tt
    by true x true y = line_kept s (SetLine (record { point = place; reads = reads })) h out may refl (setting_is s.points name place p reads h.plant found e x y short)

good_set_point : (s : Standing) (name : List ℕ) (reads : Triple ℤ) (o : Option ℕ) → place_of s.points name ≡ o → IsGood s → s.opened ≡ None → may_follow s.part Inside ≡ true → IsShortTriple reads → Good (set_point s reads o)
good_set_point s name reads None e h out may short = tt
good_set_point s name reads (Some place) e h out may short = good_input s name place reads (slice_get s.points place) refl e h out may short

good_time : (s : Standing) (reads : Triple ℤ) → IsGood s → s.opened ≡ None → may_follow s.part Inside ≡ true → Good (timed s reads)
good_time s reads h out may = by (is_time reads.a) refl (is_time reads.b) refl (is_time reads.c) refl
  where
    by : (a : Bool) → is_time reads.a ≡ a → (b : Bool) → is_time reads.b ≡ b → (c : Bool) → is_time reads.c ≡ c → Good (if a && b && c then Ok (line_added s (TimeLine reads)) else Err Range)
    by false e b f c g = tt
    by true e false f c g = tt
    by true e true f false g = tt
    by true e true f true g = line_kept s (TimeLine reads) h out may refl (e, f, g)

good_poke : (s : Standing) (leg : Leg) (z value : ℤ) (o : Option ℕ) → count_within 0 address_limit z ≡ o → IsShort value → IsGood s → s.opened ≡ None → may_follow s.part Inside ≡ true → Good (poked s leg value o)
good_poke s leg z value None e short h out may = tt
good_poke s leg z value (Some address) e short h out may = line_kept s (PokeLine leg address value) h out may refl ((within 0 address_limit z address e).1, short)

good_download : (s : Standing) → IsGood s → s.opened ≡ None → may_follow s.part Inside ≡ true → Good (download s)
good_download s h out may = by s.downloaded refl
  where
    by : (d : Bool) → s.downloaded ≡ d → Good (if d then Err Second else Ok (opening (record s { downloaded = true }) Inside DownloadBlock))
    by true e = tt
    by false e = record {
      plant = h.plant;
      text = h.text;
      block = empty_block;
      stage = some_scans s Inside h may refl;
      moments = h.moments;
      last = h.last;
      has = subst (λ (d : Bool). LastDoes (Has d) s.moments) (ap (λ o. shown o s.downloaded) out ∙ e) h.has;
      marked = refl;
    }

good_stated : (s : Standing) (st : Statement) → IsGood s → s.opened ≡ None → Sound st → may_follow s.part (part_of (word_of st)) ≡ true → is_prepared s (word_of st) ≡ true → Good (stated s st)
good_stated s Heading h out k may ready = part_kept s HeadingPart h (no_moments s HeadingPart h may refl)
good_stated s (PointLine p) h out k may ready = good_point_line s p (refusal_of s.points p) refl k h may
good_stated s Text h out k may ready = block_opens (record s { text_line = s.line }) ProgramPart Program (record { plant = h.plant; text = h.text; block = h.block; stage = h.stage; moments = h.moments; last = h.last; has = h.has; marked = h.marked }) out (no_moments s ProgramPart h may refl) refl tt
good_stated s (Schedule legs) h out k may ready = record { plant = h.plant; text = h.text; block = h.block; stage = no_moments s OrderPart h may refl; moments = h.moments; last = h.last; has = h.has; marked = h.marked }
good_stated s (Scans n) h out k may ready = good_scans s n (count_within 1 scan_limit n) refl h may
good_stated s (At n) h out k may ready = good_at s n (count_within (s.last + 1) s.scans n) refl h out may
good_stated s (Set name reads) h out k may ready = good_set_point s name reads (place_of s.points name) refl h out may k
good_stated s (Time reads) h out k may ready = good_time s reads h out may
good_stated s Download h out k may ready = good_download s h out may
good_stated s (Mute leg) h out k may ready = line_kept s (MuteLine leg) h out may refl tt
good_stated s (Poke leg address value) h out k may ready = good_poke s leg address value (count_within 0 address_limit address) refl k h out may
good_stated s (Replace leg) h out k may ready = line_kept s (ReplaceLine leg) h out may refl tt
good_stated s (Swap leg) h out k may ready = block_opens (record s { swap_lines = s.swap_lines ++ s.line ∷ [] }) Inside (SwapBlock leg) (record { plant = h.plant; text = h.text; block = h.block; stage = h.stage; moments = h.moments; last = h.last; has = h.has; marked = h.marked }) out (some_scans s Inside h may refl) refl tt
good_stated s (Read leg side numbers) h out k may ready = line_kept s (ReadLine leg side numbers) h out may refl k
good_stated s (ResultLine leg side numbers) h out k may ready = line_kept s (ResultWords leg side numbers) h out may refl k
good_stated s (Drive leg numbers) h out k may ready = line_kept s (DriveLine leg numbers) h out may refl k
good_stated s (Rename old new) h out k may ready = moment_kept s (with_rename (old, new)) h out may (λ m. refl) (λ m good has. moment_rename s.points m (old, new) good (has ∙ ready) k.0 k.1) (λ m has. has)
good_stated s (Ask bytes) h out k may ready = moment_kept s (with_ask bytes) h out may (λ m. refl) (λ m good has. moment_ask s.points m bytes good k) (λ m has. has)
good_stated s End h out k may ready = part_kept s Ended h (some_scans s Ended h may refl)

good_shaped : (s : Standing) (k : Keyword) (o : Option Statement) → Given (IsOf k) o → IsGood s → s.opened ≡ None → may_stand s k ≡ true → Good (shaped s o)
good_shaped s k None is h out may = tt
good_shaped s k (Some st) (same, is) h out may =
    let (follows, ready) = both (may_follow s.part (part_of k)) (is_prepared s k) may in
    good_stated s st h out is (ap (λ w. may_follow s.part (part_of w)) same ∙ follows) (ap (is_prepared s) same ∙ ready)

good_worded : (s : Standing) (o : Option Keyword) (words : List (List ℕ)) → IsGood s → s.opened ≡ None → Good (worded s o words)
good_worded s None words h out = tt
good_worded s (Some k) words h out = by (may_stand s k) refl
  where
    by : (b : Bool) → may_stand s k ≡ b → Good (if b then shaped s (statement_of k words) else Err Word)
    by true e = good_shaped s k (statement_of k words) (sound k words) h out e
    by false e = tt

good_outside : (s : Standing) (words : List (List ℕ)) → IsGood s → s.opened ≡ None → Good (outside s words)
good_outside s [] h out = h
good_outside s (w ∷ words) h out = by (begins_comment w)
  where
    by : (b : Bool) → Good (if b then Ok s else worded s (keyword_of w) words)
    by true = h
    by false = good_worded s (keyword_of w) words h out

-- ---- in a block

stage_changed : (t : Bool) (moments : List MomentValue) (scans : ℕ) (change : MomentValue → MomentValue) → Staged t moments scans → Staged t (with_last change moments) scans
stage_changed false moments scans change h = ap (with_last change) h
stage_changed true moments scans change h = h

-- a block that ends becomes a line of its scan
good_ended : (s : Standing) (line : ScanLine) (before : Bool) (behind : Bool) → IsGood s → LastDoes (Has before) s.moments → IsLine s.points before line → (before || is_download line) ≡ behind → s.downloaded ≡ behind
    → IsGood (record s { opened = None; moments = with_last (with_line line) s.moments; block = [] })
good_ended s line before behind h has is comes marked = record {
  plant = h.plant;
  text = h.text;
  block = empty_block;
  stage = stage_changed (has_scans s.part) s.moments s.scans (with_line line) h.stage;
  moments = changed s.points 0 s.scans (Has before) (with_line line) s.moments h.moments has (λ m. refl) (λ m good there. moment_line s.points m line good (subst (λ (d : Bool). IsLine s.points d line) (sym there) is));
  last = last_changed 0 s.last (with_line line) s.moments h.last (λ m. refl);
  has = does (Has before) (Has s.downloaded) (with_line line) s.moments has (λ m there. downloads_more m.lines false line ∙ ap (λ d. d || is_download line) there ∙ comes ∙ sym marked);
  marked = tt;
}

good_closed : (s : Standing) (o : Opener) → s.opened ≡ Some o → IsGood s → IsGood (closed s o)
good_closed s Program open' h = record {
  plant = h.plant;
  text = h.block;
  block = empty_block;
  stage = h.stage;
  moments = h.moments;
  last = h.last;
  has = subst (λ (o : Option Opener). LastDoes (Has (shown o s.downloaded)) s.moments) open' h.has;
  marked = tt;
}
good_closed s (SwapBlock leg) open' h =
    good_ended s (SwapLine leg s.block) s.downloaded s.downloaded h (subst (λ (o : Option Opener). LastDoes (Has (shown o s.downloaded)) s.moments) open' h.has) h.block (or_false s.downloaded) refl
good_closed s DownloadBlock open' h =
    good_ended s (DownloadLine s.block) false true h (subst (λ (o : Option Opener). LastDoes (Has (shown o s.downloaded)) s.moments) open' h.has) (refl, h.block) refl (subst (λ (o : Option Opener). Marked o s.downloaded) open' h.marked)

-- what a line's content is
abbrev Content : List ℕ → Type 0
Content content = (list_all no_feed content ≡ true) × (content_of content ≡ content) × (list_all is_byte content ≡ true)

good_blocked : (s : Standing) (o : Opener) (content : List ℕ) → s.opened ≡ Some o → Content content → IsGood s → IsGood (blocked s o content)
good_blocked s o content open' line h = by (bytes_eq content (codes "ENDTEXT")) refl
  where
    by : (b : Bool) → bytes_eq content (codes "ENDTEXT") ≡ b → IsGood (if b then closed s o else record s { block = s.block ++ ended content })
    by true e = good_closed s o open' h
    by false e = record { plant = h.plant; text = h.text; block = block_more s.block content h.block (line.0, line.1, e, tt) line.2; stage = h.stage; moments = h.moments; last = h.last; has = h.has; marked = h.marked }

good_placed : (s : Standing) (o : Option Opener) (content : List ℕ) → s.opened ≡ o → Content content → IsGood s → Good (placed s o content)
good_placed s (Some o) content e line h = good_blocked s o content e line h
good_placed s None content e line h = good_outside s (words_of content) h e

good_after : (r : Result Standing ScriptCause) (content : List ℕ) → Content content → Good r → Good (goes_on r content)
good_after (Err cause) content line h = tt
good_after (Ok s) content line h = good_placed (numbered s) s.opened content refl line (record { plant = h.plant; text = h.text; block = h.block; stage = h.stage; moments = h.moments; last = h.last; has = h.has; marked = h.marked })

good_lines : (lines : List (List ℕ)) (r : Result Standing ScriptCause) → AreContents lines → all_bytes lines → Good r → Good (fold goes_on r lines)
good_lines [] r a b h = h
good_lines (l ∷ lines) r a b h = good_lines lines (goes_on r l) a.2 b.1 (good_after r l (a.0, a.1, b.0) h)

good_beginning : IsGood beginning
good_beginning = record { plant = tt; text = empty_block; block = empty_block; stage = refl; moments = tt; last = refl; has = tt; marked = tt }

-- what a text spells is a script
pub reached : (text : List ℕ) (s : Standing) → list_all is_byte text ≡ true → come_to (contents_of text) ≡ Ok s → s.part ≡ Ended → IsScript (script_in s).value
reached text s bytes good end =
    let h : IsGood s = subst Good good (good_lines (contents_of text) (Ok beginning) (contents_are text) (contents_bytes text bytes) good_beginning) in
    let bounds : (1 ≤ s.scans) × (s.scans ≤ scan_limit) = subst (λ (p : Part). Staged (has_scans p) s.moments s.scans) end h.stage in
    record { plant = h.plant; text = h.text; least = bounds.0; most = bounds.1; moments = h.moments }
