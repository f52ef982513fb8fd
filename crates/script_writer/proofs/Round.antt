-- The canonical text of a script is read as that script.
use Rattle.std.proofs.Common.{◌≡◌, ℕ, ℤ, pos, ◌+◌, ◌≤◌, Bool, true, false, List, [], ◌∷◌, ◌++◌, length, map, flat_map, fold, nat_le, ◌&&◌, ◌||◌, Some, None, option_map, Result, Ok, Err, refl, sym, ap, ◌∙◌, subst, arith, append_assoc, append-nil, decimal, codes, slice_get}
use Rattle.std.specs.Bool.{if◌then◌else◌}
use Rattle.std.specs.Option.{option_and_then}
use Rattle.std.specs.Fmt.{signed_decimal}
use Rattle.std.proofs.lemmas.Bool.{le-leb}
use Rattle.std.proofs.lemmas.List.Sums.{fold-append}
use Rattle.tri_base.specs.Names.{name_of}
use Rattle.tri_base.specs.declared.leg.Leg.{Leg}
use Rattle.tri_base.specs.declared.leg.Triple.{Triple}
use Rattle.tri_base.specs.declared.point.Point.{Point}
use Rattle.chassis.specs.Points.{refusal_of, place_of}
use Rattle.script_lines.specs.declared.keyword.Keyword.{Keyword}
use Rattle.script_lines.specs.declared.keyword.Keyword.TheVariants.{Point as PointWord, Text as TextWord, Schedule as ScheduleWord, Scans as ScansWord, At as AtWord, Set as SetWord, Time as TimeWord, Download as DownloadWord, Mute as MuteWord, Poke as PokeWord, Replace as ReplaceWord, Swap as SwapWord, Read as ReadWord, Result as ResultWord, Drive as DriveWord, Rename as RenameWord, Ask as AskWord, End as EndWord}
use Rattle.script_lines.specs.declared.keyword.Part.{Part}
use Rattle.script_lines.specs.declared.keyword.Part.TheVariants.{Heading as HeadingPart, Plant, Program as ProgramPart, Order as OrderPart, Count, Moment as MomentPart, Inside, Ended}
use Rattle.script_lines.specs.declared.statement.Statement.{Statement}
use Rattle.script_lines.specs.declared.statement.Statement.TheVariants.{Point as PointLine, Text, Schedule, Scans, At, Set, Time, Download, Mute, Poke, Replace, Swap, Read, Result as ResultLine, Drive, Rename, Ask, End}
use Rattle.script_lines.specs.Lines.{lines_of, ended}
use Rattle.script_lines.specs.Order.{keyword_of, part_of, may_follow}
use Rattle.script_lines.specs.Statements.{statement_of, begins_comment, hex_bytes, ask_digits}
use Rattle.script_text.specs.declared.fault.ScriptCause.{ScriptCause}
use Rattle.script_text.specs.declared.fault.ScriptCause.TheVariants.{Word, Range, Point as PointCause}
use Rattle.script_text.specs.declared.moment.Opener.{Opener}
use Rattle.script_text.specs.declared.moment.Opener.TheVariants.{Program, Download as DownloadBlock, Swap as SwapBlock}
use Rattle.script_text.specs.declared.moment.ScanLine.{ScanLine}
use Rattle.script_text.specs.declared.moment.ScanLine.TheVariants.{Set as SetLine, Time as TimeLine, Download as DownloadLine, Mute as MuteLine, Poke as PokeLine, Replace as ReplaceLine, Swap as SwapLine, Read as ReadLine, Result as ResultWords, Drive as DriveLine}
use Rattle.script_text.specs.declared.moment.Setting.{Setting}
use Rattle.script_text.specs.MomentValue.{MomentValue}
use Rattle.script_text.specs.ScriptValue.{ScriptValue}
use Rattle.script_text.specs.Standing.{Standing, beginning, address_limit, with_last, with_line, with_rename, with_ask, line_added, count_within, new_moment, is_time, pointed, scans_to, at_scan, set_input, set_point, poked, stated, shaped, is_prepared, worded, outside, placed, numbered, after, closed}
use Rattle.script_text.specs.Spells.{contents_of, goes_on, come_to, script_in, Spells}
use Rattle.script_text.specs.IsScript.{IsShort, IsShortTriple, Writable, IsPlant, AreBlockLines, IsBlock, IsSetting, IsLine, is_download, downloads, AreLines, AreRenames, HaveDownload, IsRequest, AreRequests, AreMoments, IsScript}
use Rattle.script_text.proofs.LineFacts.{AreContents}
use Rattle.script_writer.specs.Canonical.{spaced, point_words, point_tail, triple_words, leg_word, sided_words, name_at, block_lines, hex_of, rename_line, ask_line, line_lines, moment_lines, schedule_lines, canonical_lines, canonical_text, read_back}
use Rattle.script_writer.proofs.RoundLines.{contents_again, both_contents, line_again, words_again, spaced_content, ArePlain}
use Rattle.script_writer.proofs.RoundWords.{number_again, number_plain, numbers_again, numbers_plain, name_plain, triple_again, triple_plain, leg_again, leg_plain, sided_again, sided_plain, time_short, legs_again, legs_plain, bytes_again, bytes_count, bytes_plain, point_again, point_plain}
use Rattle.tri_base.specs.Limits.{scan_limit}

-- ---- lines in two pieces

joined : (a b : List (List ℕ)) (r : Result Standing ScriptCause) (t : Standing) (u : Result Standing ScriptCause) → fold goes_on r a ≡ Ok t → fold goes_on (Ok t) b ≡ u → fold goes_on r (a ++ b) ≡ u
joined a b r t u h k = fold-append goes_on r a b ∙ (ap (λ x. fold goes_on x b) h ∙ k)

-- ---- one line of words

said : (s : Standing) (word : List ℕ) (words : List (List ℕ)) (k : Keyword) (st : Statement) → s.opened ≡ None → ArePlain (word ∷ words) → begins_comment word ≡ false → keyword_of word ≡ Some k → may_follow s.part (part_of k) ≡ true → is_prepared (numbered s) k ≡ true → statement_of k words ≡ Some st
    → after s (spaced (word ∷ words)) ≡ stated (numbered s) st
said s word words k st out plain mark key may ready is =
    ap (λ o. placed (numbered s) o (spaced (word ∷ words))) out
    ∙ (ap (outside (numbered s)) (words_again (word ∷ words) plain)
    ∙ (ap (λ t. if t then Ok (numbered s) else worded (numbered s) (keyword_of word) words) mark
    ∙ (ap (λ o. worded (numbered s) o words) key
    ∙ ((λ i. if may i && ready i then shaped (numbered s) (statement_of k words) else Err Word)
    ∙ ap (shaped (numbered s)) is))))

-- ---- points

abbrev at_points : List Point → Part → ℕ → Standing
at_points points part n = record beginning { line = n; part = part; points = points }

point_step : (before : List Point) (part : Part) (n : ℕ) (p : Point) → may_follow part Plant ≡ true → refusal_of before p ≡ None → name_of p.name ≡ Some p.name → Writable p.kind p
    → after (at_points before part n) (spaced (point_words p)) ≡ Ok (at_points (before ++ p ∷ []) Plant (n + 1))
point_step before part n p may free name w =
    said (at_points before part n) (codes "POINT") (point_tail p.kind p) PointWord (PointLine p) refl (point_plain p name w) refl refl may refl (ap (option_map (λ p. PointLine p)) (point_again p name w))
    ∙ ap (pointed (at_points before part (n + 1)) p) free

points_all : (points before : List Point) (part : Part) (n : ℕ) → may_follow part Plant ≡ true → may_follow part ProgramPart ≡ true → IsPlant before points
    → (q : Part) × (m : ℕ) × (m ≡ n + length points) × (fold goes_on (Ok (at_points before part n)) (map (λ p. spaced (point_words p)) points) ≡ Ok (at_points (before ++ points) q m)) × (may_follow q ProgramPart ≡ true)
points_all [] before part n plant program h = (part, n, omega arith, ap (λ ps. Ok (at_points ps part n)) (sym (append-nil before)), program)
points_all (p ∷ points) before part n plant program h =
    let (q, m, at, goes, follows) = points_all points (before ++ p ∷ []) Plant (n + 1) refl refl h.3 in
    let one = point_step before part n p plant h.0 h.1 h.2 in
    (q, m, omega (arith, at), ap (λ r. fold goes_on r (map (λ p. spaced (point_words p)) points)) one ∙ (goes ∙ ap (λ ps. Ok (at_points ps q m)) (append_assoc before (p ∷ []) points)), follows)

-- ---- a block

abbrev in_block : Standing → Opener → ℕ → List ℕ → Standing
in_block s opener n text = record s { line = n; opened = Some opener; block = text }

block_all : (lines : List (List ℕ)) (s : Standing) (opener : Opener) (n : ℕ) (text : List ℕ) → AreBlockLines lines
    → (m : ℕ) × (fold goes_on (Ok (in_block s opener n text)) lines ≡ Ok (in_block s opener m (text ++ flat_map ended lines)))
block_all [] s opener n text h = (n, ap (λ t. Ok (in_block s opener n t)) (sym (append-nil text)))
block_all (line ∷ lines) s opener n text h =
    let (m, goes) = block_all lines s opener (n + 1) (text ++ ended line) h.3 in
    let one : after (in_block s opener n text) line ≡ Ok (in_block s opener (n + 1) (text ++ ended line)) = ap (λ t. Ok (if t then closed (in_block s opener (n + 1) text) opener else in_block s opener (n + 1) (text ++ ended line))) h.2 in
    (m, ap (λ r. fold goes_on r lines) one ∙ (goes ∙ ap (λ t. Ok (in_block s opener m t)) (append_assoc text (ended line) (flat_map ended lines))))

pub block_lines_again : (lines : List (List ℕ)) → AreBlockLines lines → lines_of (flat_map ended lines) ≡ lines
block_lines_again [] h = refl
block_lines_again (line ∷ lines) h = ap lines_of (append_assoc line (10 ∷ []) (flat_map ended lines)) ∙ (line_again line (flat_map ended lines) h.0 ∙ ap (λ l. line ∷ l) (block_lines_again lines h.3))

-- from a block's first line on to its end
block_whole : (text : List ℕ) (s : Standing) (opener : Opener) (n : ℕ) → IsBlock text → (m : ℕ) × (fold goes_on (Ok (in_block s opener n [])) (lines_of text ++ codes "ENDTEXT" ∷ []) ≡ Ok (closed (in_block s opener m text) opener))
block_whole text s opener n (lines, is, h, bytes) =
    let (m, goes) = block_all lines s opener n [] h in
    let same : lines_of text ≡ lines = ap lines_of is ∙ block_lines_again lines h in
    let whole : fold goes_on (Ok (in_block s opener n [])) (lines_of text) ≡ Ok (in_block s opener m text) = ap (λ ls. fold goes_on (Ok (in_block s opener n [])) ls) same ∙ (goes ∙ ap (λ t. Ok (in_block s opener m t)) (sym is)) in
    (m + 1, joined (lines_of text) (codes "ENDTEXT" ∷ []) (Ok (in_block s opener n [])) (in_block s opener m text) (Ok (closed (in_block s opener (m + 1) text) opener)) whole refl)

-- ---- the lines of a scan

abbrev at_play : Standing → List ℕ → ℕ → Part → ℕ → Bool → List MomentValue → Standing
at_play base swaps n part last d moments = record base { line = n; part = part; opened = None; block = []; swap_lines = swaps; last = last; downloaded = d; moments = moments }

put : (change : MomentValue → MomentValue) (moments : List MomentValue) (m : MomentValue) → with_last change (moments ++ m ∷ []) ≡ moments ++ change m ∷ []
put change [] m = refl
put change (a ∷ []) m = refl
put change (a ∷ b ∷ moments) m = ap (λ ms. a ∷ ms) (put change (b ∷ moments) m)

or_false : (d : Bool) → (d || false) ≡ d
or_false true = refl
or_false false = refl

-- lines of a scan lead from one moment to another
abbrev Lead : Standing → List ℕ → ℕ → Part → ℕ → Bool → List MomentValue → MomentValue → List (List ℕ) → Part → Bool → MomentValue → Type 0
Lead base swaps n part last d moments m text q e next = (k : ℕ) × (others : List ℕ) × (fold goes_on (Ok (at_play base swaps n part last d (moments ++ m ∷ []))) text ≡ Ok (at_play base others k q last e (moments ++ next ∷ [])))

-- one line of words that changes the moment
one_step : (base : Standing) (swaps : List ℕ) (n : ℕ) (part : Part) (last : ℕ) (d : Bool) (moments : List MomentValue) (m : MomentValue) (word : List ℕ) (words : List (List ℕ)) (k : Keyword) (st : Statement) (change : MomentValue → MomentValue)
    → ArePlain (word ∷ words) → begins_comment word ≡ false → keyword_of word ≡ Some k → may_follow part (part_of k) ≡ true → is_prepared (at_play base swaps (n + 1) part last d (moments ++ m ∷ [])) k ≡ true → statement_of k words ≡ Some st
    → stated (at_play base swaps (n + 1) part last d (moments ++ m ∷ [])) st ≡ Ok (at_play base swaps (n + 1) Inside last d (with_last change (moments ++ m ∷ [])))
    → Lead base swaps n part last d moments m (spaced (word ∷ words) ∷ []) Inside d (change m)
one_step base swaps n part last d moments m word words k st change plain mark key may ready is taken =
    (n + 1, swaps, said (at_play base swaps n part last d (moments ++ m ∷ [])) word words k st refl plain mark key may ready is ∙ (taken ∙ ap (λ ms. Ok (at_play base swaps (n + 1) Inside last d ms)) (put change moments m)))

counted : (low high k : ℕ) → low ≤ k → k ≤ high → count_within low high (pos k) ≡ Some k
counted low high k a b =
    let least : nat_le low k ≡ true = le-leb low k a in
    let most : nat_le k high ≡ true = le-leb k high b in
    λ i. if least i && most i then Some k else None

set_taken : (points : List Point) (s : Standing) (setting : Setting) → s.points ≡ points → (h : IsSetting points setting) → stated s (Set h.point.name setting.reads) ≡ Ok (line_added s (SetLine setting))
set_taken points s setting same h =
    let p = h.point in
    ap (set_point s setting.reads) (ap (λ ps. place_of ps p.name) same ∙ h.place)
    ∙ (ap (set_input s setting.point setting.reads) (ap (λ ps. slice_get ps setting.point) same ∙ h.there)
    ∙ (λ i. if h.input i then (if h.within i then Ok (line_added s (SetLine setting)) else Err Range) else Err PointCause))

set_step : (base : Standing) (swaps : List ℕ) (n : ℕ) (part : Part) (last : ℕ) (d : Bool) (moments : List MomentValue) (m : MomentValue) (setting : Setting) → may_follow part Inside ≡ true → IsSetting base.points setting
    → Lead base swaps n part last d moments m (spaced (codes "SET" ∷ name_at (slice_get base.points setting.point) ∷ triple_words setting.reads) ∷ []) Inside d (with_line (SetLine setting) m)
set_step base swaps n part last d moments m setting may h =
    let p = h.point in
    let name : name_at (slice_get base.points setting.point) ≡ p.name = ap name_at h.there in
    subst (λ w. Lead base swaps n part last d moments m (spaced (codes "SET" ∷ w ∷ triple_words setting.reads) ∷ []) Inside d (with_line (SetLine setting) m)) (sym name)
    (one_step base swaps n part last d moments m (codes "SET") (p.name ∷ triple_words setting.reads) SetWord (Set p.name setting.reads) (with_line (SetLine setting)) (refl, (name_plain p.name h.named, triple_plain setting.reads h.short)) refl refl may refl
    (λ i. option_and_then (λ name. option_map (λ reads. Set name reads) (triple_again setting.reads h.short i)) (h.named i))
    (set_taken base.points (at_play base swaps (n + 1) part last d (moments ++ m ∷ [])) setting refl h))

time_step : (base : Standing) (swaps : List ℕ) (n : ℕ) (part : Part) (last : ℕ) (d : Bool) (moments : List MomentValue) (m : MomentValue) (reads : Triple ℤ) → may_follow part Inside ≡ true → (is_time reads.a ≡ true) × (is_time reads.b ≡ true) × (is_time reads.c ≡ true)
    → Lead base swaps n part last d moments m (spaced (codes "TIME" ∷ triple_words reads) ∷ []) Inside d (with_line (TimeLine reads) m)
time_step base swaps n part last d moments m reads may (a, b, c) =
    let short : IsShortTriple reads = (time_short reads.a a, time_short reads.b b, time_short reads.c c) in
    one_step base swaps n part last d moments m (codes "TIME") (triple_words reads) TimeWord (Time reads) (with_line (TimeLine reads)) (refl, triple_plain reads short) refl refl may refl (ap (option_map (λ reads. Time reads)) (triple_again reads short))
    (λ i. if a i && b i && c i then Ok (line_added (at_play base swaps (n + 1) part last d (moments ++ m ∷ [])) (TimeLine reads)) else Err Range)

poke_step : (base : Standing) (swaps : List ℕ) (n : ℕ) (part : Part) (last : ℕ) (d : Bool) (moments : List MomentValue) (m : MomentValue) (leg : Leg) (address : ℕ) (value : ℤ) → may_follow part Inside ≡ true → address ≤ address_limit → IsShort value
    → Lead base swaps n part last d moments m (spaced (codes "POKE" ∷ leg_word leg ∷ decimal address ∷ signed_decimal value ∷ []) ∷ []) Inside d (with_line (PokeLine leg address value) m)
poke_step base swaps n part last d moments m leg address value may few short =
    let small : IsShort (pos address) = omega (arith, few) in
    one_step base swaps n part last d moments m (codes "POKE") (leg_word leg ∷ decimal address ∷ signed_decimal value ∷ []) PokeWord (Poke leg (pos address) value) (with_line (PokeLine leg address value)) (refl, (leg_plain leg, (number_plain (pos address) small, (number_plain value short, tt)))) refl refl may refl
    (λ i. option_and_then (λ leg. option_and_then (λ address. option_map (λ value. Poke leg address value) (number_again value short i)) (number_again (pos address) small i)) (leg_again leg i))
    (ap (poked (at_play base swaps (n + 1) part last d (moments ++ m ∷ [])) leg value) (counted 0 address_limit address (omega arith) few))

rename_step : (base : Standing) (swaps : List ℕ) (n : ℕ) (last : ℕ) (moments : List MomentValue) (m : MomentValue) (r : List ℕ × List ℕ) → name_of r.0 ≡ Some r.0 → name_of r.1 ≡ Some r.1
    → Lead base swaps n Inside last true moments m (rename_line r ∷ []) Inside true (with_rename r m)
rename_step base swaps n last moments m r a b =
    one_step base swaps n Inside last true moments m (codes "RENAME") (r.0 ∷ r.1 ∷ []) RenameWord (Rename r.0 r.1) (with_rename r) (refl, (name_plain r.0 a, (name_plain r.1 b, tt))) refl refl refl refl
    (λ i. option_and_then (λ old. option_map (λ new. Rename old new) (b i)) (a i)) refl

ask_step : (base : Standing) (swaps : List ℕ) (n : ℕ) (part : Part) (last : ℕ) (d : Bool) (moments : List MomentValue) (m : MomentValue) (bytes : List ℕ) → may_follow part Inside ≡ true → IsRequest bytes
    → Lead base swaps n part last d moments m (ask_line bytes ∷ []) Inside d (with_ask bytes m)
ask_step base swaps n part last d moments m bytes may h =
    let digits = flat_map hex_of bytes in
    let low : nat_le 2 (length digits) ≡ true = le-leb 2 (length digits) (omega (arith, bytes_count bytes, h.some)) in
    let high : nat_le (length digits) ask_digits ≡ true = le-leb (length digits) ask_digits (omega (arith, bytes_count bytes, h.few)) in
    one_step base swaps n part last d moments m (codes "ASK") (digits ∷ []) AskWord (Ask bytes) (with_ask bytes) (refl, (bytes_plain bytes h, tt)) refl refl may refl
    ((λ i. if low i && high i then option_map (λ bytes. Ask bytes) (hex_bytes digits) else None) ∙ ap (option_map (λ bytes. Ask bytes)) (bytes_again bytes h.small)) refl

swap_step : (base : Standing) (swaps : List ℕ) (n : ℕ) (part : Part) (last : ℕ) (d : Bool) (moments : List MomentValue) (m : MomentValue) (leg : Leg) (text : List ℕ) → may_follow part Inside ≡ true → IsBlock text
    → Lead base swaps n part last d moments m (block_lines (spaced (codes "SWAP" ∷ leg_word leg ∷ [])) text) Inside d (with_line (SwapLine leg text) m)
swap_step base swaps n part last d moments m leg text may h =
    let s = at_play base swaps n part last d (moments ++ m ∷ []) in
    let more = swaps ++ (n + 1) ∷ [] in
    let inner = at_play base more (n + 1) Inside last d (moments ++ m ∷ []) in
    let line : after s (spaced (codes "SWAP" ∷ leg_word leg ∷ [])) ≡ Ok (in_block inner (SwapBlock leg) (n + 1) []) =
    said s (codes "SWAP") (leg_word leg ∷ []) SwapWord (Swap leg) refl (refl, (leg_plain leg, tt)) refl refl may refl (ap (option_map (λ leg. Swap leg)) (leg_again leg)) in
    let (k, goes) = block_whole text inner (SwapBlock leg) (n + 1) h in
    (k, more, ap (λ r. fold goes_on r (lines_of text ++ codes "ENDTEXT" ∷ [])) line ∙ (goes ∙ ap (λ ms. Ok (at_play base more k Inside last d ms)) (put (with_line (SwapLine leg text)) moments m)))

download_step : (base : Standing) (swaps : List ℕ) (n : ℕ) (part : Part) (last : ℕ) (moments : List MomentValue) (m : MomentValue) (text : List ℕ) → may_follow part Inside ≡ true → IsBlock text
    → Lead base swaps n part last false moments m (block_lines (codes "DOWNLOAD") text) Inside true (with_line (DownloadLine text) m)
download_step base swaps n part last moments m text may h =
    let s = at_play base swaps n part last false (moments ++ m ∷ []) in
    let inner = at_play base swaps (n + 1) Inside last true (moments ++ m ∷ []) in
    let line : after s (codes "DOWNLOAD") ≡ Ok (in_block inner DownloadBlock (n + 1) []) = said s (codes "DOWNLOAD") [] DownloadWord Download refl (refl, tt) refl refl may refl refl in
    let (k, goes) = block_whole text inner DownloadBlock (n + 1) h in
    (k, swaps, ap (λ r. fold goes_on r (lines_of text ++ codes "ENDTEXT" ∷ [])) line ∙ (goes ∙ ap (λ ms. Ok (at_play base swaps k Inside last true ms)) (put (with_line (DownloadLine text)) moments m)))

-- two pieces of a scan's lines
then_lead : (base : Standing) (swaps : List ℕ) (n : ℕ) (part : Part) (last : ℕ) (d : Bool) (moments : List MomentValue) (m : MomentValue) (a b : List (List ℕ)) (q r : Part) (e f : Bool) (m1 m2 : MomentValue)
    → Lead base swaps n part last d moments m a q e m1 → ((others : List ℕ) (k : ℕ) → Lead base others k q last e moments m1 b r f m2) → Lead base swaps n part last d moments m (a ++ b) r f m2
then_lead base swaps n part last d moments m a b q r e f m1 m2 (k, others, h) more =
    let (j, last_ones, goes) = more others k in
    (j, last_ones, joined a b (Ok (at_play base swaps n part last d (moments ++ m ∷ []))) (at_play base others k q last e (moments ++ m1 ∷ [])) (Ok (at_play base last_ones j r last f (moments ++ m2 ∷ []))) h goes)

renames_all : (renames : List (List ℕ × List ℕ)) (base : Standing) (swaps : List ℕ) (n : ℕ) (last : ℕ) (moments : List MomentValue) (m : MomentValue) → AreRenames renames
    → Lead base swaps n Inside last true moments m (map rename_line renames) Inside true (record m { renames = m.renames ++ renames })
renames_all [] base swaps n last moments m h = (n, swaps, λ i. Ok (at_play base swaps n Inside last true (moments ++ record m { renames = sym (append-nil m.renames) i } ∷ [])))
renames_all (r ∷ renames) base swaps n last moments m h =
    subst (λ rs. Lead base swaps n Inside last true moments m (map rename_line (r ∷ renames)) Inside true (record m { renames = rs })) (append_assoc m.renames (r ∷ []) renames)
    (then_lead base swaps n Inside last true moments m (rename_line r ∷ []) (map rename_line renames) Inside Inside true true (with_rename r m) (record m { renames = (m.renames ++ r ∷ []) ++ renames })
    (rename_step base swaps n last moments m r h.0 h.1) (λ others k. renames_all renames base others k last moments (with_rename r m) h.2))

-- a part behind which a line of the scan, another scan or the end may stand
abbrev Opens : Part → Type 0
Opens q = (may_follow q Inside ≡ true) × (may_follow q MomentPart ≡ true) × (may_follow q Ended ≡ true)

asks_all : (asks : List (List ℕ)) (base : Standing) (swaps : List ℕ) (n : ℕ) (part : Part) (last : ℕ) (d : Bool) (moments : List MomentValue) (m : MomentValue) → Opens part → AreRequests asks
    → (q : Part) × Opens q × Lead base swaps n part last d moments m (map ask_line asks) q d (record m { asks = m.asks ++ asks })
asks_all [] base swaps n part last d moments m opens h = (part, opens, (n, swaps, λ i. Ok (at_play base swaps n part last d (moments ++ record m { asks = sym (append-nil m.asks) i } ∷ []))))
asks_all (ask ∷ asks) base swaps n part last d moments m opens h =
    let (k, others, one) = ask_step base swaps n part last d moments m ask opens.0 h.0 in
    let (q, ready, (j, rest, goes)) = asks_all asks base others k Inside last d moments (with_ask ask m) (refl, refl, refl) h.1 in (
      q,
      ready,
      (
        j,
        rest,
        joined (ask_line ask ∷ []) (map ask_line asks) (Ok (at_play base swaps n part last d (moments ++ m ∷ []))) (at_play base others k Inside last d (moments ++ with_ask ask m ∷ [])) (Ok (at_play base rest j q last d (moments ++ record m { asks = m.asks ++ ask ∷ asks } ∷ []))) one
            (goes ∙ (λ i. Ok (at_play base rest j q last d (moments ++ record m { asks = append_assoc m.asks (ask ∷ []) asks i } ∷ [])))),
      ),
    )

-- a scan's moment after some of its lines: the renames are there with the download
abbrev so_far : ℕ → List (List ℕ × List ℕ) → Bool → List ScanLine → MomentValue
so_far scan renames d lines = record { scan = scan; lines = lines; renames = if d then renames else []; asks = [] }

-- a line that is no download
kept_step : (base : Standing) (swaps : List ℕ) (n : ℕ) (part : Part) (last : ℕ) (d : Bool) (moments : List MomentValue) (scan : ℕ) (renames : List (List ℕ × List ℕ)) (done : List ScanLine) (line : ScanLine) (text : List (List ℕ))
    → Lead base swaps n part last d moments (so_far scan renames d done) text Inside d (with_line line (so_far scan renames d done))
    → Lead base swaps n part last d moments (so_far scan renames d done) text Inside (d || false) (so_far scan renames (d || false) (done ++ line ∷ []))
kept_step base swaps n part last d moments scan renames done line text h =
    subst (λ e. Lead base swaps n part last d moments (so_far scan renames d done) text Inside e (so_far scan renames e (done ++ line ∷ []))) (sym (or_false d)) h

line_step : (base : Standing) (swaps : List ℕ) (n : ℕ) (part : Part) (last : ℕ) (d : Bool) (moments : List MomentValue) (scan : ℕ) (renames : List (List ℕ × List ℕ)) (done : List ScanLine) (line : ScanLine) → may_follow part Inside ≡ true → AreRenames renames → IsLine base.points d line
    → Lead base swaps n part last d moments (so_far scan renames d done) (line_lines base.points renames line) Inside (d || is_download line) (so_far scan renames (d || is_download line) (done ++ line ∷ []))
line_step base swaps n part last d moments scan renames done (SetLine setting) may names h =
    kept_step base swaps n part last d moments scan renames done (SetLine setting) (line_lines base.points renames (SetLine setting)) (set_step base swaps n part last d moments (so_far scan renames d done) setting may h)
line_step base swaps n part last d moments scan renames done (TimeLine reads) may names h =
    kept_step base swaps n part last d moments scan renames done (TimeLine reads) (line_lines base.points renames (TimeLine reads)) (time_step base swaps n part last d moments (so_far scan renames d done) reads may h)
line_step base swaps n part last d moments scan renames done (DownloadLine text) may names h =
    subst (λ e. Lead base swaps n part last e moments (so_far scan renames e done) (line_lines base.points renames (DownloadLine text)) Inside (e || true) (so_far scan renames (e || true) (done ++ DownloadLine text ∷ []))) (sym h.0)
    (then_lead base swaps n part last false moments (so_far scan renames false done) (block_lines (codes "DOWNLOAD") text) (map rename_line renames) Inside Inside true true (with_line (DownloadLine text) (so_far scan renames false done)) (so_far scan renames true (done ++ DownloadLine text ∷ []))
    (download_step base swaps n part last moments (so_far scan renames false done) text may h.1)
    (λ others k. renames_all renames base others k last moments (with_line (DownloadLine text) (so_far scan renames false done)) names))
line_step base swaps n part last d moments scan renames done (MuteLine leg) may names h =
    kept_step base swaps n part last d moments scan renames done (MuteLine leg) (line_lines base.points renames (MuteLine leg))
    (one_step base swaps n part last d moments (so_far scan renames d done) (codes "MUTE") (leg_word leg ∷ []) MuteWord (Mute leg) (with_line (MuteLine leg)) (refl, (leg_plain leg, tt)) refl refl may refl (ap (option_map (λ leg. Mute leg)) (leg_again leg)) refl)
line_step base swaps n part last d moments scan renames done (PokeLine leg address value) may names h =
    kept_step base swaps n part last d moments scan renames done (PokeLine leg address value) (line_lines base.points renames (PokeLine leg address value)) (poke_step base swaps n part last d moments (so_far scan renames d done) leg address value may h.0 h.1)
line_step base swaps n part last d moments scan renames done (ReplaceLine leg) may names h =
    kept_step base swaps n part last d moments scan renames done (ReplaceLine leg) (line_lines base.points renames (ReplaceLine leg))
    (one_step base swaps n part last d moments (so_far scan renames d done) (codes "REPLACE") (leg_word leg ∷ []) ReplaceWord (Replace leg) (with_line (ReplaceLine leg)) (refl, (leg_plain leg, tt)) refl refl may refl (ap (option_map (λ leg. Replace leg)) (leg_again leg)) refl)
line_step base swaps n part last d moments scan renames done (SwapLine leg text) may names h =
    kept_step base swaps n part last d moments scan renames done (SwapLine leg text) (line_lines base.points renames (SwapLine leg text)) (swap_step base swaps n part last d moments (so_far scan renames d done) leg text may h)
line_step base swaps n part last d moments scan renames done (ReadLine leg side numbers) may names h =
    kept_step base swaps n part last d moments scan renames done (ReadLine leg side numbers) (line_lines base.points renames (ReadLine leg side numbers))
    (one_step base swaps n part last d moments (so_far scan renames d done) (codes "READ") (sided_words leg side numbers) ReadWord (Read leg side numbers) (with_line (ReadLine leg side numbers)) (refl, sided_plain leg side numbers h) refl refl may refl (ap (option_map (λ t. Read t.0 t.1 t.2)) (sided_again leg side numbers h)) refl)
line_step base swaps n part last d moments scan renames done (ResultWords leg side numbers) may names h =
    kept_step base swaps n part last d moments scan renames done (ResultWords leg side numbers) (line_lines base.points renames (ResultWords leg side numbers))
    (one_step base swaps n part last d moments (so_far scan renames d done) (codes "RESULT") (sided_words leg side numbers) ResultWord (ResultLine leg side numbers) (with_line (ResultWords leg side numbers)) (refl, sided_plain leg side numbers h) refl refl may refl (ap (option_map (λ t. ResultLine t.0 t.1 t.2)) (sided_again leg side numbers h)) refl)
line_step base swaps n part last d moments scan renames done (DriveLine leg numbers) may names h =
    kept_step base swaps n part last d moments scan renames done (DriveLine leg numbers) (line_lines base.points renames (DriveLine leg numbers))
    (one_step base swaps n part last d moments (so_far scan renames d done) (codes "DRIVE") (leg_word leg ∷ map signed_decimal numbers) DriveWord (Drive leg numbers) (with_line (DriveLine leg numbers)) (refl, (leg_plain leg, numbers_plain numbers h)) refl refl may refl
    (λ i. option_and_then (λ leg. option_map (λ numbers. Drive leg numbers) (numbers_again numbers h i)) (leg_again leg i)) refl)

lines_all : (lines : List ScanLine) (base : Standing) (swaps : List ℕ) (n : ℕ) (part : Part) (last : ℕ) (d : Bool) (moments : List MomentValue) (scan : ℕ) (renames : List (List ℕ × List ℕ)) (done : List ScanLine) → Opens part → AreRenames renames → AreLines base.points d lines
    → (q : Part) × Opens q × Lead base swaps n part last d moments (so_far scan renames d done) (flat_map (line_lines base.points renames) lines) q (downloads d lines) (so_far scan renames (downloads d lines) (done ++ lines))
lines_all [] base swaps n part last d moments scan renames done opens names h = (part, opens, (n, swaps, λ i. Ok (at_play base swaps n part last d (moments ++ so_far scan renames d (sym (append-nil done) i) ∷ []))))
lines_all (line ∷ lines) base swaps n part last d moments scan renames done opens names h =
    let e = d || is_download line in
    let (k, others, one) = line_step base swaps n part last d moments scan renames done line opens.0 names h.0 in
    let (q, ready, (j, rest, goes)) = lines_all lines base others k Inside last e moments scan renames (done ++ line ∷ []) (refl, refl, refl) names h.1 in (
      q,
      ready,
      (
        j,
        rest,
        joined (line_lines base.points renames line) (flat_map (line_lines base.points renames) lines) (Ok (at_play base swaps n part last d (moments ++ so_far scan renames d done ∷ []))) (at_play base others k Inside last e (moments ++ so_far scan renames e (done ++ line ∷ []) ∷ [])) (Ok (at_play base rest j q last (downloads e lines) (moments ++ so_far scan renames (downloads e lines) (done ++ line ∷ lines) ∷ []))) one
            (goes ∙ (λ i. Ok (at_play base rest j q last (downloads e lines) (moments ++ so_far scan renames (downloads e lines) (append_assoc done (line ∷ []) lines i) ∷ [])))),
      ),
    )

all_renames : (renames : List (List ℕ × List ℕ)) (d : Bool) → HaveDownload renames d → (if d then renames else []) ≡ renames
all_renames [] true h = refl
all_renames [] false h = refl
all_renames (r ∷ renames) d h = ap (λ t. if t then r ∷ renames else []) h

moments_all : (later : List MomentValue) (base : Standing) (swaps : List ℕ) (n : ℕ) (part : Part) (last : ℕ) (d : Bool) (moments : List MomentValue) → (may_follow part MomentPart ≡ true) × (may_follow part Ended ≡ true) → base.scans ≤ scan_limit → AreMoments base.points last base.scans later
    → (k : ℕ) × (others : List ℕ) × (q : Part) × (l : ℕ) × (e : Bool) × (may_follow q Ended ≡ true) × (fold goes_on (Ok (at_play base swaps n part last d moments)) (flat_map (moment_lines base.points) later) ≡ Ok (at_play base others k q l e (moments ++ later)))
moments_all [] base swaps n part last d moments opens most h = (n, swaps, part, last, d, opens.1, ap (λ ms. Ok (at_play base swaps n part last d ms)) (sym (append-nil moments)))
moments_all (m ∷ later) base swaps n part last d moments opens most h =
    let s = at_play base swaps n part last d moments in
    let next = at_play base swaps (n + 1) part last d moments in
    let short : IsShort (pos m.scan) = omega (arith, h.1, most) in
    let begun = at_play base swaps (n + 1) MomentPart m.scan false (moments ++ new_moment m.scan ∷ []) in
    let head : after s (spaced (codes "AT" ∷ decimal m.scan ∷ [])) ≡ Ok begun =
    said s (codes "AT") (decimal m.scan ∷ []) AtWord (At (pos m.scan)) refl (refl, (number_plain (pos m.scan) short, tt)) refl refl opens.0 refl (ap (option_map (λ z. At z)) (number_again (pos m.scan) short))
    ∙ ap (at_scan next) (counted (last + 1) base.scans m.scan (omega (arith, h.0)) h.1) in
    let has = downloads false m.lines in
    let lines_text = flat_map (line_lines base.points m.renames) m.lines in
    let (q, ready, (k, others, lines)) = lines_all m.lines base swaps (n + 1) MomentPart m.scan false moments m.scan m.renames [] (refl, refl, refl) h.2.renames h.2.lines in
    let read = so_far m.scan m.renames has m.lines in
    let (r, ready2, (j, rest, asks)) = asks_all m.asks base others k q m.scan has moments read ready h.2.asks in
    let whole : record read { asks = m.asks } ≡ m = λ i. record { scan = m.scan; lines = m.lines; renames = all_renames m.renames has h.2.prepared i; asks = m.asks } in
    let all : fold goes_on (Ok s) (moment_lines base.points m) ≡ Ok (at_play base rest j r m.scan has (moments ++ m ∷ [])) =
    ap (λ x. fold goes_on x (lines_text ++ map ask_line m.asks)) head
    ∙ (joined lines_text (map ask_line m.asks) (Ok begun) (at_play base others k q m.scan has (moments ++ read ∷ [])) (Ok (at_play base rest j r m.scan has (moments ++ record read { asks = m.asks } ∷ []))) lines asks
    ∙ ap (λ x. Ok (at_play base rest j r m.scan has (moments ++ x ∷ []))) whole) in
    let (i, swaps2, t, l, f, closes, goes) = moments_all later base rest j r m.scan has (moments ++ m ∷ []) (ready2.1, ready2.2) most h.3 in (
      i,
      swaps2,
      t,
      l,
      f,
      closes,
      joined (moment_lines base.points m) (flat_map (moment_lines base.points) later) (Ok s) (at_play base rest j r m.scan has (moments ++ m ∷ [])) (Ok (at_play base swaps2 i t l f (moments ++ m ∷ later))) all
          (goes ∙ ap (λ ms. Ok (at_play base swaps2 i t l f ms)) (append_assoc moments (m ∷ []) later)),
    )

-- ---- the whole

abbrev programmed : List Point → List ℕ → ℕ → ℕ → Standing
programmed points text n at = record beginning { line = n; part = ProgramPart; points = points; text = text; text_line = at }

schedule_all : (legs : List Leg) (points : List Point) (text : List ℕ) (n at : ℕ)
    → (q : Part) × (m : ℕ) × (may_follow q Count ≡ true) × (fold goes_on (Ok (programmed points text n at)) (schedule_lines legs) ≡ Ok (record (programmed points text m at) { part = q; schedule = legs }))
schedule_all [] points text n at = (ProgramPart, n, refl, refl)
schedule_all (leg ∷ legs) points text n at =
    (OrderPart, n + 1, refl, said (programmed points text n at) (codes "SCHEDULE") (flat_map leg_word (leg ∷ legs) ∷ []) ScheduleWord (Schedule (leg ∷ legs)) refl (refl, (legs_plain leg legs, tt)) refl refl refl refl (ap (option_map (λ legs. Schedule legs)) (legs_again (leg ∷ legs))))

whole : (v : ScriptValue) → IsScript v → (t : Standing) × (swaps : List ℕ) × (come_to (canonical_lines v) ≡ Ok t) × (t.part ≡ Ended) × (script_in t ≡ read_back v swaps)
whole v h =
    let points_text = map (λ p. spaced (point_words p)) v.points in
    let moments_text = flat_map (moment_lines v.points) v.moments in
    let tail = spaced (codes "SCANS" ∷ decimal v.scans ∷ []) ∷ (moments_text ++ (codes "END" ∷ [])) in
    let (q, m, at, points, program) = points_all v.points [] HeadingPart 1 refl refl h.plant in
    let standing = at_points v.points q m in
    let inner = record standing { part = ProgramPart; text_line = m + 1 } in
    let head : after standing (codes "TEXT") ≡ Ok (in_block inner Program (m + 1) []) = said standing (codes "TEXT") [] TextWord Text refl (refl, tt) refl refl program refl refl in
    let (n, block) = block_whole v.text inner Program (m + 1) h.text in
    let base = programmed v.points v.text n (m + 1) in
    let (p, o, count, order) = schedule_all v.schedule v.points v.text n (m + 1) in
    let ordered = record (programmed v.points v.text o (m + 1)) { part = p; schedule = v.schedule } in
    let short : IsShort (pos v.scans) = omega (arith, h.most) in
    let play = record ordered { line = o + 1; part = Count; scans = v.scans } in
    let scans : after ordered (spaced (codes "SCANS" ∷ decimal v.scans ∷ [])) ≡ Ok play =
    said ordered (codes "SCANS") (decimal v.scans ∷ []) ScansWord (Scans (pos v.scans)) refl (refl, (number_plain (pos v.scans) short, tt)) refl refl count refl (ap (option_map (λ z. Scans z)) (number_again (pos v.scans) short))
    ∙ ap (scans_to (record ordered { line = o + 1 })) (counted 1 scan_limit v.scans h.least h.most) in
    let (k, swaps, r, l, e, ready, moments) = moments_all v.moments play [] (o + 1) Count 0 false [] (refl, refl) h.most h.moments in
    let last = at_play play swaps k r l e v.moments in
    let done = record last { line = k + 1; part = Ended } in
    let end : after last (codes "END") ≡ Ok done = said last (codes "END") [] EndWord End refl (refl, tt) refl refl ready refl refl in
    let behind : fold goes_on (Ok ordered) tail ≡ Ok done =
    ap (λ x. fold goes_on x (moments_text ++ codes "END" ∷ [])) scans
    ∙ joined moments_text (codes "END" ∷ []) (Ok play) last (Ok done) moments end in
    let with_order : fold goes_on (Ok base) (schedule_lines v.schedule ++ tail) ≡ Ok done = joined (schedule_lines v.schedule) tail (Ok base) ordered (Ok done) order behind in
    let text : fold goes_on (Ok standing) (block_lines (codes "TEXT") v.text ++ (schedule_lines v.schedule ++ tail)) ≡ Ok done =
    joined (block_lines (codes "TEXT") v.text) (schedule_lines v.schedule ++ tail) (Ok standing) base (Ok done) (ap (λ x. fold goes_on x (lines_of v.text ++ codes "ENDTEXT" ∷ [])) head ∙ block) with_order in
    (done, swaps, joined points_text (block_lines (codes "TEXT") v.text ++ (schedule_lines v.schedule ++ tail)) (Ok (at_points [] HeadingPart 1)) standing (Ok done) points text, refl, λ i. record { value = v; text_line = line m (length v.points) at i; swap_lines = swaps })
  where
    line : (m n : ℕ) → m ≡ 1 + n → m + 1 ≡ 2 + n
    line m n at = omega (arith, at)

-- ---- its lines are what they are as lines of a text

-- a line of plain words
words_content : (words : List (List ℕ)) → ArePlain words → AreContents (spaced words ∷ [])
words_content words h = let line = spaced_content words h in (line.0, line.1, tt)

point_contents : (points before : List Point) → IsPlant before points → AreContents (map (λ p. spaced (point_words p)) points)
point_contents [] before h = tt
point_contents (p ∷ points) before h = let line = spaced_content (point_words p) (point_plain p h.1 h.2) in (line.0, line.1, point_contents points (before ++ p ∷ []) h.3)

text_contents : (lines : List (List ℕ)) → AreBlockLines lines → AreContents lines
text_contents [] h = tt
text_contents (line ∷ lines) h = (h.0, h.1, text_contents lines h.3)

block_contents : (first text : List ℕ) → AreContents (first ∷ []) → IsBlock text → AreContents (block_lines first text)
block_contents first text one (lines, is, h, bytes) =
    let same : lines_of text ≡ lines = ap lines_of is ∙ block_lines_again lines h in
    (one.0, one.1, both_contents (lines_of text) (codes "ENDTEXT" ∷ []) (subst AreContents (sym same) (text_contents lines h)) (refl, refl, tt))

renames_contents : (renames : List (List ℕ × List ℕ)) → AreRenames renames → AreContents (map rename_line renames)
renames_contents [] h = tt
renames_contents (r ∷ renames) h =
    let line = spaced_content (codes "RENAME" ∷ r.0 ∷ r.1 ∷ []) (refl, (name_plain r.0 h.0, (name_plain r.1 h.1, tt))) in
    (line.0, line.1, renames_contents renames h.2)

asks_contents : (asks : List (List ℕ)) → AreRequests asks → AreContents (map ask_line asks)
asks_contents [] h = tt
asks_contents (ask ∷ asks) h =
    let line = spaced_content (codes "ASK" ∷ flat_map hex_of ask ∷ []) (refl, (bytes_plain ask h.0, tt)) in
    (line.0, line.1, asks_contents asks h.1)

line_contents : (points : List Point) (renames : List (List ℕ × List ℕ)) (d : Bool) (line : ScanLine) → AreRenames renames → IsLine points d line → AreContents (line_lines points renames line)
line_contents points renames d (SetLine setting) names h =
    let name : name_at (slice_get points setting.point) ≡ h.point.name = ap name_at h.there in
    words_content (codes "SET" ∷ name_at (slice_get points setting.point) ∷ triple_words setting.reads) (subst (λ w. ArePlain (codes "SET" ∷ w ∷ triple_words setting.reads)) (sym name) (refl, (name_plain h.point.name h.named, triple_plain setting.reads h.short)))
line_contents points renames d (TimeLine reads) names h = words_content (codes "TIME" ∷ triple_words reads) (refl, triple_plain reads (time_short reads.a h.0, time_short reads.b h.1, time_short reads.c h.2))
line_contents points renames d (DownloadLine text) names h = both_contents (block_lines (codes "DOWNLOAD") text) (map rename_line renames) (block_contents (codes "DOWNLOAD") text (refl, refl, tt) h.1) (renames_contents renames names)
line_contents points renames d (MuteLine leg) names h = words_content (codes "MUTE" ∷ leg_word leg ∷ []) (refl, (leg_plain leg, tt))
line_contents points renames d (PokeLine leg address value) names h =
    let small : IsShort (pos address) = let few = h.0 in omega (arith, few) in
    words_content (codes "POKE" ∷ leg_word leg ∷ decimal address ∷ signed_decimal value ∷ []) (refl, (leg_plain leg, (number_plain (pos address) small, (number_plain value h.1, tt))))
line_contents points renames d (ReplaceLine leg) names h = words_content (codes "REPLACE" ∷ leg_word leg ∷ []) (refl, (leg_plain leg, tt))
line_contents points renames d (SwapLine leg text) names h = block_contents (spaced (codes "SWAP" ∷ leg_word leg ∷ [])) text (words_content (codes "SWAP" ∷ leg_word leg ∷ []) (refl, (leg_plain leg, tt))) h
line_contents points renames d (ReadLine leg side numbers) names h = words_content (codes "READ" ∷ sided_words leg side numbers) (refl, sided_plain leg side numbers h)
line_contents points renames d (ResultWords leg side numbers) names h = words_content (codes "RESULT" ∷ sided_words leg side numbers) (refl, sided_plain leg side numbers h)
line_contents points renames d (DriveLine leg numbers) names h = words_content (codes "DRIVE" ∷ leg_word leg ∷ map signed_decimal numbers) (refl, (leg_plain leg, numbers_plain numbers h))

lines_contents : (points : List Point) (renames : List (List ℕ × List ℕ)) (d : Bool) (lines : List ScanLine) → AreRenames renames → AreLines points d lines → AreContents (flat_map (line_lines points renames) lines)
lines_contents points renames d [] names h = tt
lines_contents points renames d (line ∷ lines) names h = both_contents (line_lines points renames line) (flat_map (line_lines points renames) lines) (line_contents points renames d line names h.0) (lines_contents points renames (d || is_download line) lines names h.1)

moments_contents : (points : List Point) (last scans : ℕ) (moments : List MomentValue) → scans ≤ scan_limit → AreMoments points last scans moments → AreContents (flat_map (moment_lines points) moments)
moments_contents points last scans [] most h = tt
moments_contents points last scans (m ∷ moments) most h =
    let short : IsShort (pos m.scan) = omega (arith, h.1, most) in
    let line = spaced_content (codes "AT" ∷ decimal m.scan ∷ []) (refl, (number_plain (pos m.scan) short, tt)) in
    let inner = both_contents (flat_map (line_lines points m.renames) m.lines) (map ask_line m.asks) (lines_contents points m.renames false m.lines h.2.renames h.2.lines) (asks_contents m.asks h.2.asks) in
    both_contents (moment_lines points m) (flat_map (moment_lines points) moments) (line.0, line.1, inner) (moments_contents points m.scan scans moments most h.3)

schedule_contents : (legs : List Leg) → AreContents (schedule_lines legs)
schedule_contents [] = tt
schedule_contents (leg ∷ legs) = words_content (codes "SCHEDULE" ∷ flat_map leg_word (leg ∷ legs) ∷ []) (refl, (legs_plain leg legs, tt))

contents : (v : ScriptValue) → IsScript v → AreContents (canonical_lines v)
contents v h =
    let short : IsShort (pos v.scans) = omega (arith, h.most) in
    let scans = spaced_content (codes "SCANS" ∷ decimal v.scans ∷ []) (refl, (number_plain (pos v.scans) short, tt)) in
    let moments = flat_map (moment_lines v.points) v.moments in
    let tail = spaced (codes "SCANS" ∷ decimal v.scans ∷ []) ∷ (moments ++ (codes "END" ∷ [])) in (
      refl,
      refl,
      both_contents (map (λ p. spaced (point_words p)) v.points) (block_lines (codes "TEXT") v.text ++ (schedule_lines v.schedule ++ tail))
          (point_contents v.points [] h.plant)
          (both_contents (block_lines (codes "TEXT") v.text) (schedule_lines v.schedule ++ tail)
          (block_contents (codes "TEXT") v.text (refl, refl, tt) h.text)
          (both_contents (schedule_lines v.schedule) tail (schedule_contents v.schedule)
          (scans.0, scans.1, both_contents moments (codes "END" ∷ []) (moments_contents v.points 0 v.scans v.moments h.most h.moments) (refl, refl, tt)))),
    )

pub round : (v : ScriptValue) → IsScript v → (swaps : List ℕ) × Spells (contents_of (canonical_text v)) (read_back v swaps)
round v h =
    let same = contents_again (canonical_lines v) (contents v h) in
    let (t, swaps, good, end, says) = whole v h in
    (swaps, record { standing = t; good = ap come_to same ∙ good; ended = end; says = sym says })
