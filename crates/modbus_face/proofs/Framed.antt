-- Frames taken apart and put together.
use Rattle.std.proofs.Common.{◌≡◌, ap, sym, refl, subst, ℕ, suc, ◌+◌, ◌*◌, ◌/◌, ◌%◌, ◌<◌, ◌≤◌, ◌&&◌, ◌==◌, nat_le, ℤ, List, [], ◌∷◌, length, Bool, true, false, arith}
use Rattle.std.specs.Prelude.{Option, Some, None, if◌then◌else◌, unwrap_or}
use Rattle.std.proofs.lemmas.Bool.{eq-eqb, eqb-true, le-leb}
use Rattle.tri_base.specs.declared.point.Point.{Point}
use Rattle.tri_base.specs.declared.point.PointKind.{PointKind}
use Rattle.modbus_face.specs.Frames.{is_framed, framed, function_of, parameters_of, transaction_of, unit_of}
use Rattle.modbus_face.specs.Laws.{HasFramedReply, HasItsParts}
use Rattle.modbus_face.specs.Reads.{kind_read}
use Rattle.modbus_face.specs.Replies.{pdu_of, pdu_unless}
use Rattle.modbus_face.proofs.Lengths.{short_pdu}

-- ---- what is put together is framed

framed_whole : (a b unit : ℕ) (pdu : List ℕ) → 1 ≤ length pdu → length pdu ≤ 253 → is_framed (framed (a ∷ b ∷ []) unit pdu) ≡ true
framed_whole a b unit pdu some few =
    let n = length pdu in
    let least : nat_le 8 (suc (suc (suc (suc (suc (suc (suc n))))))) ≡ true = le-leb _ _ (omega (arith, some)) in
    let greatest : nat_le (suc (suc (suc (suc (suc (suc (suc n))))))) 260 ≡ true = le-leb _ _ (omega (arith, few)) in
    let counted : (256 * ((1 + n) / 256) + (1 + n) % 256 + 6 == suc (suc (suc (suc (suc (suc (suc n))))))) ≡ true = eq-eqb _ _ (omega arith) in
    λ i. least i && greatest i && true && counted i

one_at_least : (function : ℕ) (found : Option ℕ) (kind : Option PointKind) (parameters : List ℕ) (seen : List ℤ) → 1 ≤ length (pdu_unless found function kind parameters seen)
one_at_least function (Some code) kind parameters seen = omega arith
one_at_least function None kind parameters seen = omega arith

some_pdu : (kind : Option PointKind) (function : ℕ) (parameters : List ℕ) (points : List Point) (inputs outputs : List ℤ)
    → 1 ≤ length (pdu_of kind function parameters points inputs outputs)
some_pdu kind function parameters points inputs outputs = one_at_least function _ kind parameters _

record Replied (request reply : List ℕ) : Type 0 where
  whole : is_framed reply ≡ true
  transaction : transaction_of reply ≡ transaction_of request
  unit : unit_of reply ≡ unit_of request

both : (s t : Bool) → (s && t) ≡ true → (s ≡ true) × (t ≡ true)
both true t h = (refl, h)
both false t h = absurd (cc)

replied : (request pdu : List ℕ) → is_framed request ≡ true → 1 ≤ length pdu → length pdu ≤ 253
    → Replied request (framed (transaction_of request) (unit_of request) pdu)
replied [] pdu h some few = absurd (cc)
replied (a ∷ []) pdu h some few = absurd (cc)
replied (a ∷ b ∷ rest) pdu h some few =
    record { whole = framed_whole a b (unit_of (a ∷ b ∷ rest)) pdu some few; transaction = refl; unit = refl }

pub has_framed_reply : (request : List ℕ) (points : List Point) (inputs outputs : List ℤ) → HasFramedReply request points inputs outputs
has_framed_reply request points inputs outputs reply h = by (is_framed request) refl h
  where
    function : ℕ
    function = function_of request

    pdu : List ℕ
    pdu = pdu_of (kind_read function) function (parameters_of request) points inputs outputs

    by : (t : Bool) → is_framed request ≡ t → (if t then Some (framed (transaction_of request) (unit_of request) pdu) else None) ≡ Some reply
        → (is_framed reply ≡ true) × (transaction_of reply ≡ transaction_of request) × (unit_of reply ≡ unit_of request)
    by true e k =
        let r = replied request pdu e (some_pdu (kind_read function) function (parameters_of request) points inputs outputs)
        (short_pdu (kind_read function) function (parameters_of request) points inputs outputs) in
        let same : framed (transaction_of request) (unit_of request) pdu ≡ reply = ap (λ (o : Option (List ℕ)). unwrap_or o []) k in
        subst (λ l. (is_framed l ≡ true) × (transaction_of l ≡ transaction_of request) × (unit_of l ≡ unit_of request)) same (r.whole, r.transaction, r.unit)
    by false e k = absurd (cc)

-- ---- what is framed is put together of its parts

record Two (h l n : ℕ) : Type 0 where
  high : n / 256 ≡ h
  low : n % 256 ≡ l

two_of : (h l n : ℕ) → l < 256 → 256 * h + l ≡ n → Two h l n
two_of h l n short e = record { high = omega (arith, short, e); low = omega (arith, short, e) }

pub has_its_parts : (request : List ℕ) → HasItsParts request
has_its_parts [] bytes h = absurd (cc)
has_its_parts (a ∷ []) bytes h = absurd (cc)
has_its_parts (a ∷ b ∷ []) bytes h = absurd (cc)
has_its_parts (a ∷ b ∷ p ∷ []) bytes h = absurd (cc)
has_its_parts (a ∷ b ∷ p ∷ q ∷ []) bytes h = absurd (cc)
has_its_parts (a ∷ b ∷ p ∷ q ∷ n ∷ []) bytes h = absurd (cc)
has_its_parts (a ∷ b ∷ p ∷ q ∷ n ∷ m ∷ []) bytes h = absurd (cc)
has_its_parts (a ∷ b ∷ p ∷ q ∷ n ∷ m ∷ u ∷ []) bytes h = absurd (cc)
has_its_parts (a ∷ b ∷ p ∷ q ∷ n ∷ m ∷ u ∷ f ∷ rest) bytes h =
    let size = length (f ∷ rest) in
    let all = suc (suc (suc (suc (suc (suc (suc size)))))) in
    let last = both (nat_le 8 all && nat_le all 260 && (256 * p + q == 0)) (256 * n + m + 6 == all) h in
    let more = both (nat_le 8 all && nat_le all 260) (256 * p + q == 0) last.0 in
    let protocol : 256 * p + q ≡ 0 = eqb-true _ _ more.1 in
    let counted : 256 * n + m + 6 ≡ suc (suc (suc (suc (suc (suc (suc size)))))) = eqb-true _ _ last.1 in
    let none_p : p ≡ 0 = omega (arith, protocol) in
    let none_q : q ≡ 0 = omega (arith, protocol) in
    let short : m < 256 = bytes 5 0 (omega arith) in
    let asked : 256 * n + m ≡ 1 + size = omega (arith, counted) in
    let two = two_of n m (1 + size) short asked in
    λ i. a ∷ b ∷ none_p i ∷ none_q i ∷ sym two.high i ∷ sym two.low i ∷ u ∷ f ∷ rest
