-- The tables of the standards, as the standards print them (ISO/IEC 15420 and 15417, symbol characters). All drawing
-- and all reading rests on these rows.
use Rattle.std.specs.Prelude.{ℕ, List, ◌==◌, ◌++◌, codes}
use Rattle.std.specs.List.{slice_split}

-- the rows of a table: the words of a text with a blank between each two
abbrev pub rows : List ℕ → List (List ℕ)
rows text = slice_split (λ byte. byte == 32) text

-- ISO/IEC 15420: the modules of the digits 0 to 9 in number set A, `1` where dark
unfoldable pub number_set_a : List (List ℕ)
number_set_a = rows (codes "0001101 0011001 0010011 0111101 0100011 0110001 0101111 0111011 0110111 0001011")

-- ISO/IEC 15420: the number sets of the left half of an EAN-13 symbol, for the first digits 0 to 9
unfoldable pub left_half_sets : List (List ℕ)
left_half_sets = rows (codes "AAAAAA AABABB AABBAB AABBBA ABAABB ABBAAB ABBBAA ABABAB ABABBA ABBABA")

-- ISO/IEC 15417: the widths of bars and spaces, a bar first, of the values 0 to 106, of which 106 is the stop character
unfoldable pub character_widths : List (List ℕ)
character_widths = rows (
    codes "212222 222122 222221 121223 121322 131222 122213 122312 132212 221213 " ++
    codes "221312 231212 112232 122132 122231 113222 123122 123221 223211 221132 " ++
    codes "221231 213212 223112 312131 311222 321122 321221 312212 322112 322211 " ++
    codes "212123 212321 232121 111323 131123 131321 112313 132113 132311 211313 " ++
    codes "231113 231311 112133 112331 132131 113123 113321 133121 313121 211331 " ++
    codes "231131 213113 213311 213131 311123 311321 331121 312113 312311 332111 " ++
    codes "314111 221411 431111 111224 111422 121124 121421 141122 141221 112214 " ++
    codes "112412 122114 122411 142112 142211 241211 221114 413111 241112 134111 " ++
    codes "111242 121142 121241 114212 124112 124211 411212 421112 421211 212141 " ++
    codes "214121 412121 111143 111341 131141 114113 114311 411113 411311 113141 " ++
    codes "114131 311141 411131 211412 211214 211232 2331112")
