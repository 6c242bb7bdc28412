-- What a line says, by its bytes without the line feed.
use Rattle.std.specs.Prelude.{ℕ, Bool, true, false, ◌&&◌, List, [], ◌∷◌, length, get_or, leb, eqb}
use Rattle.answer.specs.Choice.{pick}
use Rattle.text.specs.Decimal.{is_digit, value, value_from}
use Rattle.kbm_text.specs.declared.kinds.Kind.{Kind}
use Rattle.kbm_text.specs.declared.kinds.Kind.TheVariants.{Number, Frequency, Mark, Comment, Other}

-- "the unmapped mark, a lower-case letter x"
abbrev pub mark : List ℕ
mark = 120 ∷ []

-- "the frequency is 440.000000"
abbrev pub frequency : List ℕ
frequency = 52 ∷ 52 ∷ 48 ∷ 46 ∷ 48 ∷ 48 ∷ 48 ∷ 48 ∷ 48 ∷ 48 ∷ []

-- "lines that begin with an exclamation mark"
abbrev pub is_comment : List ℕ → Bool
is_comment line = eqb (get_or line 0 0) 33

unfoldable pub all_digits : List ℕ → Bool
all_digits [] = true
all_digits (byte ∷ rest) = is_digit byte && all_digits rest

-- "a number of 1 to 5 digits": leading zeros are digits too, and the number may pass 65,535.
unfoldable pub says_number : List ℕ → Bool
unfolding all_digits
says_number line = leb 1 (length line) && leb (length line) 5 && all_digits line

unfoldable pub same_bytes : List ℕ → List ℕ → Bool
same_bytes [] [] = true
same_bytes [] (b ∷ t) = false
same_bytes (a ∷ s) [] = false
same_bytes (a ∷ s) (b ∷ t) = eqb a b && same_bytes s t

unfoldable pub kind_of : List ℕ → Kind
unfolding same_bytes says_number value_from
kind_of line =
    pick (is_comment line) Comment
    (pick (same_bytes line mark) Mark
    (pick (same_bytes line frequency) Frequency
    (pick (says_number line) (Number (value line)) Other)))

abbrev pub is_comment_kind : Kind → Bool
is_comment_kind (Number n) = false
is_comment_kind Frequency = false
is_comment_kind Mark = false
is_comment_kind Comment = true
is_comment_kind Other = false

abbrev pub is_number_kind : Kind → Bool
is_number_kind (Number n) = true
is_number_kind Frequency = false
is_number_kind Mark = false
is_number_kind Comment = false
is_number_kind Other = false
