-- The standard function blocks (IEC 61131-3:2013, 6.6.3.5), each as what one call makes of the values of its fields. A
-- call reads each field in its type and writes all of them (own rule). `dt` is the scan time of the call, in
-- milliseconds.
use Rattle.std.specs.Prelude.{ℤ, pos, negsuc, ◌+ℤ◌, ◌-ℤ◌, Bool, true, false, not, ◌&&◌, ◌||◌, if◌then◌else◌, List, [], ◌∷◌, map, int_lt}
use Rattle.std.specs.Int.{int_max, int_min}
use Rattle.std.specs.Int.RustNames.{int_le}
use Rattle.function_blocks.specs.declared.kinds.Kind.TheVariants as kind
use Rattle.function_blocks.specs.declared.blocks.BlockKind.{BlockKind}
use Rattle.function_blocks.specs.declared.blocks.BlockKind.TheVariants as block
use Rattle.function_blocks.specs.Values.{Value, Truth, Number, word_of, least, greatest}
use Rattle.function_blocks.specs.Fields.{read_fields}

-- Each equation has one line for the fields that the block has; other lists of values never come.

-- 6.6.3.5.3, R_TRIG: Q := CLK AND NOT M; M := CLK
abbrev pub r_trig : List Value → List Value
r_trig (Truth clk ∷ Truth q ∷ Truth m ∷ []) = Truth clk ∷ Truth (clk && not m) ∷ Truth clk ∷ []
r_trig values = values

-- 6.6.3.5.3, F_TRIG: Q := NOT CLK AND NOT M; M := NOT CLK
abbrev pub f_trig : List Value → List Value
f_trig (Truth clk ∷ Truth q ∷ Truth m ∷ []) = Truth clk ∷ Truth (not clk && not m) ∷ Truth (not clk) ∷ []
f_trig values = values

-- 6.6.3.5.2, SR: Q1 := S1 OR (NOT R AND Q1)
abbrev pub sr : List Value → List Value
sr (Truth s1 ∷ Truth r ∷ Truth q1 ∷ []) = Truth s1 ∷ Truth r ∷ Truth (s1 || (not r && q1)) ∷ []
sr values = values

-- 6.6.3.5.2, RS: Q1 := NOT R1 AND (S OR Q1)
abbrev pub rs : List Value → List Value
rs (Truth s ∷ Truth r1 ∷ Truth q1 ∷ []) = Truth s ∷ Truth r1 ∷ Truth (not r1 && (s || q1)) ∷ []
rs values = values

-- CTU's count: 0 where R, else one more on a rising CU that finds it below the greatest INT
abbrev pub counted_up : (cu r : Bool) (cv : ℤ) (m : Bool) → ℤ
counted_up cu true cv m = pos 0
counted_up cu false cv m = if cu && not m && int_lt cv (greatest kind.Int) then cv +ℤ pos 1 else cv

-- 6.6.3.5.4, CTU: CV is the count; Q := CV >= PV; M := CU
abbrev pub ctu : List Value → List Value
ctu (Truth cu ∷ Truth r ∷ Number pv ∷ Truth q ∷ Number cv ∷ Truth m ∷ []) =
    let count = counted_up cu r cv m in
    Truth cu ∷ Truth r ∷ Number pv ∷ Truth (int_le pv count) ∷ Number count ∷ Truth cu ∷ []
ctu values = values

-- CTD's count: PV where LD, else one less on a rising CD that finds it above the least INT
abbrev pub counted_down : (cd ld : Bool) (pv cv : ℤ) (m : Bool) → ℤ
counted_down cd true pv cv m = pv
counted_down cd false pv cv m = if cd && not m && int_lt (least kind.Int) cv then cv -ℤ pos 1 else cv

-- 6.6.3.5.4, CTD: CV is the count; Q := CV <= 0; M := CD
abbrev pub ctd : List Value → List Value
ctd (Truth cd ∷ Truth ld ∷ Number pv ∷ Truth q ∷ Number cv ∷ Truth m ∷ []) =
    let count = counted_down cd ld pv cv m in
    Truth cd ∷ Truth ld ∷ Number pv ∷ Truth (int_le count (pos 0)) ∷ Number count ∷ Truth cd ∷ []
ctd values = values

-- a timer's time T: PT, or 0 where PT is negative
abbrev pub preset : ℤ → ℤ
preset pt = int_max pt (pos 0)

-- a timer's elapsed time after `dt` more, which stops at T
abbrev pub elapsed : (dt pt et : ℤ) → ℤ
elapsed dt pt et = int_min (et +ℤ dt) (preset pt)

-- Q and ET of a timer after a call
pub record Timed : Type 0 where
  pub q : Bool
  pub et : ℤ

-- TON: ET runs while IN stays on, and is 0 else; Q := IN AND ET >= T
abbrev pub delayed_on : (dt : ℤ) (input : Bool) (pt et : ℤ) (m : Bool) → Timed
delayed_on dt true pt et true = record { q = int_le (preset pt) (elapsed dt pt et); et = elapsed dt pt et }
delayed_on dt true pt et false = record { q = int_le (preset pt) (pos 0); et = pos 0 }
delayed_on dt false pt et m = record { q = false; et = pos 0 }

-- TOF: Q is on with IN, and stays on until the time T after IN fell
abbrev pub delayed_off : (dt : ℤ) (input : Bool) (pt : ℤ) (q : Bool) (et : ℤ) (m : Bool) → Timed
delayed_off dt true pt q et m = record { q = true; et = pos 0 }
delayed_off dt false pt q et true = record { q = int_lt (pos 0) (preset pt); et = pos 0 }
delayed_off dt false pt true et false = record { q = int_lt (elapsed dt pt et) (preset pt); et = elapsed dt pt et }
delayed_off dt false pt false et false = record { q = false; et = et }

-- TP: a rising IN that finds Q off starts a pulse of the time T
abbrev pub pulsed : (dt : ℤ) (input : Bool) (pt : ℤ) (q : Bool) (et : ℤ) (m : Bool) → Timed
pulsed dt input pt true et m = record { q = int_lt (elapsed dt pt et) (preset pt); et = elapsed dt pt et }
pulsed dt true pt false et false = record { q = int_lt (pos 0) (preset pt); et = pos 0 }
pulsed dt true pt false et true = record { q = false; et = et }
pulsed dt false pt false et m = record { q = false; et = pos 0 }

-- the fields IN, PT, Q, ET, M of a timer after a call; M := IN
abbrev pub timer : (input : Bool) (pt : ℤ) (after : Timed) → List Value
timer input pt after = Truth input ∷ Number pt ∷ Truth after.q ∷ Number after.et ∷ Truth input ∷ []

-- 6.6.3.5.5, TON
abbrev pub ton : ℤ → List Value → List Value
ton dt (Truth input ∷ Number pt ∷ Truth q ∷ Number et ∷ Truth m ∷ []) =
    timer input pt (delayed_on dt input pt et m)
ton dt values = values

-- 6.6.3.5.5, TOF
abbrev pub tof : ℤ → List Value → List Value
tof dt (Truth input ∷ Number pt ∷ Truth q ∷ Number et ∷ Truth m ∷ []) =
    timer input pt (delayed_off dt input pt q et m)
tof dt values = values

-- 6.6.3.5.5, TP
abbrev pub tp : ℤ → List Value → List Value
tp dt (Truth input ∷ Number pt ∷ Truth q ∷ Number et ∷ Truth m ∷ []) =
    timer input pt (pulsed dt input pt q et m)
tp dt values = values

-- the equation of a block
abbrev pub equation : BlockKind → ℤ → List Value → List Value
equation block.RTrig dt values = r_trig values
equation block.FTrig dt values = f_trig values
equation block.Sr dt values = sr values
equation block.Rs dt values = rs values
equation block.Ctu dt values = ctu values
equation block.Ctd dt values = ctd values
equation block.Ton dt values = ton dt values
equation block.Tof dt values = tof dt values
equation block.Tp dt values = tp dt values

-- a block's words after a call: each field read in its type, then the equation
abbrev pub step_block : BlockKind → ℤ → List ℤ → List ℤ
step_block b dt words = map word_of (equation b dt (read_fields b words))
