-- The words of the sentences, as bytes of UTF-8; × is 195 151, a line feed is 10.
use Rattle.std.specs.Prelude.{ℕ, List, [], ◌∷◌}

-- " stands "
abbrev pub stands_word : List ℕ
stands_word = 32 ∷ 115 ∷ 116 ∷ 97 ∷ 110 ∷ 100 ∷ 115 ∷ 32 ∷ []

-- " place"
abbrev pub place_word : List ℕ
place_word = 32 ∷ 112 ∷ 108 ∷ 97 ∷ 99 ∷ 101 ∷ []

-- " up"
abbrev pub up_word : List ℕ
up_word = 32 ∷ 117 ∷ 112 ∷ []

-- " down"
abbrev pub down_word : List ℕ
down_word = 32 ∷ 100 ∷ 111 ∷ 119 ∷ 110 ∷ []

-- " the chain from "
abbrev pub from_word : List ℕ
from_word = 32 ∷ 116 ∷ 104 ∷ 101 ∷ 32 ∷ 99 ∷ 104 ∷ 97 ∷ 105 ∷ 110 ∷ 32 ∷ 102 ∷ 114 ∷ 111 ∷ 109 ∷ 32 ∷ []

-- " stands where counting begins"
abbrev pub begins_word : List ℕ
begins_word =
    32 ∷ 115 ∷ 116 ∷ 97 ∷ 110 ∷ 100 ∷ 115 ∷ 32 ∷ 119 ∷ 104 ∷ 101 ∷ 114 ∷ 101 ∷ 32 ∷ 99 ∷ 111 ∷ 117 ∷ 110 ∷ 116 ∷ 105 ∷ 110 ∷ 103 ∷ 32 ∷ 98 ∷ 101 ∷ 103 ∷ 105 ∷ 110 ∷ 115 ∷ []

-- ", with "
abbrev pub with_word : List ℕ
with_word = 44 ∷ 32 ∷ 119 ∷ 105 ∷ 116 ∷ 104 ∷ 32 ∷ []

-- " star"
abbrev pub star_word : List ℕ
star_word = 32 ∷ 115 ∷ 116 ∷ 97 ∷ 114 ∷ []

-- ": "
abbrev pub colon_word : List ℕ
colon_word = 58 ∷ 32 ∷ []

-- " × "
abbrev pub times_word : List ℕ
times_word = 32 ∷ 195 ∷ 151 ∷ 32 ∷ []

-- " keys"
abbrev pub keys_word : List ℕ
keys_word = 32 ∷ 107 ∷ 101 ∷ 121 ∷ 115 ∷ []

-- " and "
abbrev pub and_word : List ℕ
and_word = 32 ∷ 97 ∷ 110 ∷ 100 ∷ 32 ∷ []

-- " are "
abbrev pub are_word : List ℕ
are_word = 32 ∷ 97 ∷ 114 ∷ 101 ∷ 32 ∷ []

-- "key "
abbrev pub key_word : List ℕ
key_word = 107 ∷ 101 ∷ 121 ∷ 32 ∷ []

-- " of "
abbrev pub of_word : List ℕ
of_word = 32 ∷ 111 ∷ 102 ∷ 32 ∷ []

-- ".\n"
abbrev pub end_word : List ℕ
end_word = 46 ∷ 10 ∷ []

-- "They are "
abbrev pub they_are_word : List ℕ
they_are_word = 84 ∷ 104 ∷ 101 ∷ 121 ∷ 32 ∷ 97 ∷ 114 ∷ 101 ∷ 32 ∷ []

-- " apart, "
abbrev pub apart_word : List ℕ
apart_word = 32 ∷ 97 ∷ 112 ∷ 97 ∷ 114 ∷ 116 ∷ 44 ∷ 32 ∷ []

-- "and the chain comes round after "
abbrev pub after_word : List ℕ
after_word =
    97 ∷ 110 ∷ 100 ∷ 32 ∷ 116 ∷ 104 ∷ 101 ∷ 32 ∷ 99 ∷ 104 ∷ 97 ∷ 105 ∷ 110 ∷ 32 ∷ 99 ∷ 111 ∷ 109 ∷ 101 ∷ 115 ∷ 32 ∷ 114 ∷ 111 ∷ 117 ∷
    110 ∷ 100 ∷ 32 ∷ 97 ∷ 102 ∷ 116 ∷ 101 ∷ 114 ∷ 32 ∷ []

-- " times the "
abbrev pub times_the_word : List ℕ
times_the_word = 32 ∷ 116 ∷ 105 ∷ 109 ∷ 101 ∷ 115 ∷ 32 ∷ 116 ∷ 104 ∷ 101 ∷ 32 ∷ []

-- " after which the chain comes round"
abbrev pub after_which_word : List ℕ
after_which_word =
    32 ∷ 97 ∷ 102 ∷ 116 ∷ 101 ∷ 114 ∷ 32 ∷ 119 ∷ 104 ∷ 105 ∷ 99 ∷ 104 ∷ 32 ∷ 116 ∷ 104 ∷ 101 ∷ 32 ∷ 99 ∷ 104 ∷ 97 ∷ 105 ∷ 110 ∷ 32 ∷ 99
    ∷ 111 ∷ 109 ∷ 101 ∷ 115 ∷ 32 ∷ 114 ∷ 111 ∷ 117 ∷ 110 ∷ 100 ∷ []

-- ": one key.\n"
abbrev pub one_key_word : List ℕ
one_key_word = 58 ∷ 32 ∷ 111 ∷ 110 ∷ 101 ∷ 32 ∷ 107 ∷ 101 ∷ 121 ∷ 46 ∷ 10 ∷ []

-- ": two keys.\n"
abbrev pub two_keys_word : List ℕ
two_keys_word = 58 ∷ 32 ∷ 116 ∷ 119 ∷ 111 ∷ 32 ∷ 107 ∷ 101 ∷ 121 ∷ 115 ∷ 46 ∷ 10 ∷ []

-- "They stand at one place: one key.\n"
abbrev pub one_place_line : List ℕ
one_place_line =
    84 ∷ 104 ∷ 101 ∷ 121 ∷ 32 ∷ 115 ∷ 116 ∷ 97 ∷ 110 ∷ 100 ∷ 32 ∷ 97 ∷ 116 ∷ 32 ∷ 111 ∷ 110 ∷ 101 ∷ 32 ∷ 112 ∷ 108 ∷ 97 ∷ 99 ∷ 101 ∷ 58
    ∷ 32 ∷ 111 ∷ 110 ∷ 101 ∷ 32 ∷ 107 ∷ 101 ∷ 121 ∷ 46 ∷ 10 ∷ []

-- "Their stars differ, so they stand on different chains: two keys.\n"
abbrev pub stars_differ_line : List ℕ
stars_differ_line =
    84 ∷ 104 ∷ 101 ∷ 105 ∷ 114 ∷ 32 ∷ 115 ∷ 116 ∷ 97 ∷ 114 ∷ 115 ∷ 32 ∷ 100 ∷ 105 ∷ 102 ∷ 102 ∷ 101 ∷ 114 ∷ 44 ∷ 32 ∷ 115 ∷ 111 ∷ 32 ∷
    116 ∷ 104 ∷ 101 ∷ 121 ∷ 32 ∷ 115 ∷ 116 ∷ 97 ∷ 110 ∷ 100 ∷ 32 ∷ 111 ∷ 110 ∷ 32 ∷ 100 ∷ 105 ∷ 102 ∷ 102 ∷ 101 ∷ 114 ∷ 101 ∷ 110 ∷ 116
    ∷ 32 ∷ 99 ∷ 104 ∷ 97 ∷ 105 ∷ 110 ∷ 115 ∷ 58 ∷ 32 ∷ 116 ∷ 119 ∷ 111 ∷ 32 ∷ 107 ∷ 101 ∷ 121 ∷ 115 ∷ 46 ∷ 10 ∷ []
