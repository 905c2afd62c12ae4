-- M32 codes (document 02, Req 01; G 5.1.5 and 7): a 32-bit number in one to six bytes. A number is that of its 32 bits, so a
-- negative one counts 4294967296 more. What is quoted is document 02.
use Rattle.std.specs.Prelude.{ℕ, zero, suc, ◌+◌, ◌-◌, ◌*◌, ◌/◌, ◌%◌, List, [], ◌∷◌, ◌++◌, Bool, true, false, Option, Some, None, length, get_or, drop, leb, eqb}
use Rattle.wire.specs.Pick.{pick}
use Rattle.wire.specs.Tests.{◌≤?◌, passes}
use Rattle.wire.specs.Bytes.{largest_integer}
use Rattle.m32.specs.declared.Partial.{Partial}
use Rattle.m32.specs.declared.Step.{Step}
use Rattle.m32.specs.declared.Step.TheVariants.{Number, More, Bad}
use Rattle.m32.specs.declared.Found.{Found}

-- 'one to five bytes .. holding the magnitude less 127, 255, 16639, 2113791 or 270549247': where G 7.1's ranges begin, of which it does
-- not print the fourth. G 7.1's rows of bytes, which hold the number's own bits, are not followed (docs/DECISIONS.md, A53): each range is
-- just full only where its base is taken off, the fourth has no row, and the rows of the others would share bytes with document 02's
-- code for it
abbrev pub bases : List ℕ
bases = 127 ∷ 255 ∷ 16639 ∷ 2113791 ∷ 270549247 ∷ []

-- the lowest number: 'a magnitude above 2147483647' is no other's
abbrev pub lowest : ℕ
lowest = 2147483648

-- the number of a sign and a magnitude
abbrev pub signed : Bool → ℕ → ℕ
signed negative m = pick negative (4294967296 - m) m

-- Reading.

-- a magnitude of which no byte is read
abbrev pub begun : Bool → Partial
begun negative = record { negative = negative; digits = 0; sum = 0 }

-- the first byte: 'one signed byte from -126 to 126; -128 means -2147483648; 127 or -127 begins a positive or negative value'
unfoldable pub first_step : ℕ → Step
first_step y =
    pick (leb y 126) (Number y)
    (pick (eqb y 127) (More (begun false))
    (pick (eqb y 128) (Number lowest)
    (pick (eqb y 129) (More (begun true))
    (Number (y + 4294967040)))))

-- a byte that another follows: malformed is 'a sixth byte of magnitude', and so is a number of bits that no
-- code comes to; only a state that was made up has it
unfoldable pub go_on : Partial → ℕ → Step
go_on p v =
    pick (passes ((p.digits ≤? 3) ∷ (v ≤? largest_integer) ∷ []))
    (More (record { negative = p.negative; digits = p.digits + 1; sum = v })) Bad

-- the last byte: malformed is 'a magnitude above 2147483647'
unfoldable pub ended : Partial → ℕ → Step
ended p v =
    pick (passes ((p.digits ≤? 4) ∷ (v + get_or bases p.digits 0 ≤? largest_integer) ∷ []))
    (Number (signed p.negative (v + get_or bases p.digits 0))) Bad

-- a further byte: 'seven bits, high bits first, top bit set where more follow'
unfoldable pub further_step : Partial → ℕ → Step
further_step p y = pick (leb 128 y) (go_on p (p.sum * 128 + (y - 128))) (ended p (p.sum * 128 + y))

-- a source of bytes: at a position, the byte there and the position behind it, or no more
pub data Next : Type 0 where
  byte : ℕ → ℕ → Next
  end : Next

-- the bytes of a list by their positions
unfoldable pub bytes_next : List ℕ → ℕ → Next
bytes_next s at = pick (leb (length s) at) end (byte (get_or s at 0) (at + 1))

-- a number and the position behind its code
abbrev pub found : ℕ → ℕ → Option Found
found x q = Some (record { x = x; at = q })

-- with the next byte and the position behind it; where the source has no more, there is no code
abbrev pub after : Next → (ℕ → ℕ → Option Found) → Option Found
after (byte y q) f = f y q
after end f = None

-- what a step comes to at a position, `more` being what further bytes come to
abbrev pub settle : Step → ℕ → (Partial → Option Found) → Option Found
settle (Number x) at more = found x at
settle (More p) at more = more p
settle Bad at more = None

-- what at most k bytes more of a magnitude come to
unfoldable pub magnitude : (ℕ → Next) → ℕ → Partial → ℕ → Option Found
magnitude next zero p at = None
magnitude next (suc k) p at = after (next at) (λ y q. settle (further_step p y) q (λ r. magnitude next k r q))

-- the code at a position: its first byte, and 'one to five bytes' more where that begins a magnitude
unfoldable pub read_code : (ℕ → Next) → ℕ → Option Found
read_code next at = after (next at) (λ y q. settle (first_step y) q (λ r. magnitude next 5 r q))

-- numbers, and the position behind their codes
pub record Numbers : Type 0 where
  pub numbers : List ℕ
  pub behind : ℕ

-- none at a position
abbrev pub no_numbers : ℕ → Numbers
no_numbers at = record { numbers = []; behind = at }

-- a number in front of others
abbrev pub in_front : ℕ → Numbers → Numbers
in_front x ns = record { numbers = x ∷ ns.numbers; behind = ns.behind }

-- a code and what stands behind it, or none
abbrev pub one_more : Option Found → ℕ → (ℕ → Numbers) → Numbers
one_more (Some f) at others = in_front f.x (others f.at)
one_more None at others = no_numbers at

-- the numbers of as many codes as stand one behind the other from a position on, n at most
unfoldable pub read_codes : (ℕ → Next) → ℕ → ℕ → Numbers
read_codes next zero at = no_numbers at
read_codes next (suc n) at = one_more (read_code next at) at (λ q. read_codes next n q)

-- Writing.

-- the magnitude of a number
unfoldable pub absolute : ℕ → ℕ
absolute x = pick (leb x largest_integer) x (4294967296 - x)

-- how many of the numbers of a list, ascending, are at or below m
unfoldable pub reached : ℕ → List ℕ → ℕ
reached m [] = 0
reached m (b ∷ bs) = pick (leb b m) (suc (reached m bs)) 0

-- how many bytes of a magnitude are followed by another: as many as it reaches bases behind the first
unfoldable pub continued : ℕ → ℕ
continued m = reached m (drop 1 bases)

-- the k lowest groups of seven bits of v, 'high bits first', with the top bit set
unfoldable pub sevens : ℕ → ℕ → List ℕ
sevens zero v = []
sevens (suc k) v = sevens k (v / 128) ++ ((128 + v % 128) ∷ [])

-- v in k bytes that are followed by another, and a last one
unfoldable pub payload : ℕ → ℕ → List ℕ
payload k v = sevens k (v / 128) ++ ((v % 128) ∷ [])

-- the bytes of a magnitude, less its base
unfoldable pub wide : ℕ → List ℕ
wide m = payload (continued m) (m - get_or bases (continued m) 0)

-- a number's code: 'one signed byte from -126 to 126; -128 means -2147483648; 127 or -127 begins a positive or negative value'
unfoldable pub code_of : ℕ → List ℕ
code_of x =
    pick (leb (absolute x) 126) ((x % 256) ∷ [])
    (pick (eqb (absolute x) lowest) (128 ∷ [])
    (pick (leb x largest_integer) 127 129 ∷ wide (absolute x)))

-- the codes of some numbers, one behind the other
unfoldable pub codes : List ℕ → List ℕ
codes [] = []
codes (x ∷ xs) = code_of x ++ codes xs
