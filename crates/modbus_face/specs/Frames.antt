-- The frame of a request and of a reply: the MBAP header (transaction identifier, protocol identifier, length, unit
-- identifier) and the PDU (a function code and what follows it). Modbus messaging on TCP/IP, 'MBAP Header description'.
use Rattle.std.specs.Prelude.{ℕ, ◌+◌, ◌*◌, ◌/◌, ◌%◌, ◌==◌, ◌&&◌, nat_le, Bool, List, [], ◌∷◌, ◌++◌, length, take, drop, slice_index}

-- A number of 16 bits as two bytes, the high byte first.
abbrev pub two_bytes : ℕ → List ℕ
two_bytes n = n / 256 ∷ n % 256 ∷ []

-- The number of 16 bits that stands at a place of some bytes, the high byte first.
abbrev pub number_at : List ℕ → ℕ → ℕ
number_at bytes place = 256 * slice_index bytes place + slice_index bytes (place + 1)

-- The least number of bytes of a request: the MBAP header and a function code.
abbrev pub least_request : ℕ
least_request = 8

-- The greatest number of bytes of a request: the MBAP header and the longest PDU, of 253 bytes.
abbrev pub greatest_request : ℕ
greatest_request = 260

-- The two bytes of the transaction identifier.
abbrev pub transaction_of : List ℕ → List ℕ
transaction_of request = take 2 request

-- The protocol identifier: 0 is Modbus.
abbrev pub protocol_of : List ℕ → ℕ
protocol_of request = number_at request 2

-- The length field: how many bytes are said to follow it.
abbrev pub length_field_of : List ℕ → ℕ
length_field_of request = number_at request 4

-- The unit identifier.
abbrev pub unit_of : List ℕ → ℕ
unit_of request = slice_index request 6

-- The function code.
abbrev pub function_of : List ℕ → ℕ
function_of request = slice_index request 7

-- The bytes after the function code.
abbrev pub parameters_of : List ℕ → List ℕ
parameters_of request = drop 8 request

-- A request is framed: it has 8 to 260 bytes, the protocol is Modbus, and the length field is the number of the bytes
-- after it.
abbrev pub is_framed : List ℕ → Bool
is_framed request =
    nat_le least_request (length request) && nat_le (length request) greatest_request
    && protocol_of request == 0 && length_field_of request + 6 == length request

-- The frame of a transaction, a unit and a PDU. The protocol is Modbus, and the length field counts the unit identifier
-- and the PDU.
abbrev pub framed : (transaction : List ℕ) → (unit : ℕ) → (pdu : List ℕ) → List ℕ
framed transaction unit pdu = transaction ++ (two_bytes 0 ++ (two_bytes (1 + length pdu) ++ unit ∷ pdu))
