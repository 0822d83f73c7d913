-- The places of document 01's rules in their list, by names. The end of a lexeme is said with them. Assumes nothing.
use Prim.Native.Nat.{ℕ}

abbrev pub blank_run_rule : ℕ
blank_run_rule = 0

abbrev pub closed_line_rule : ℕ
closed_line_rule = 1

abbrev pub open_line_rule : ℕ
open_line_rule = 2

abbrev pub closed_block_rule : ℕ
closed_block_rule = 3

abbrev pub open_block_rule : ℕ
open_block_rule = 4

abbrev pub operator_rule : ℕ
operator_rule = 5

abbrev pub string_rule : ℕ
string_rule = 6

abbrev pub quoted_name_rule : ℕ
quoted_name_rule = 7

abbrev pub integer_rule : ℕ
integer_rule = 8

abbrev pub float_rule : ℕ
float_rule = 9

abbrev pub blob_rule : ℕ
blob_rule = 10

abbrev pub parameter_rule : ℕ
parameter_rule = 11

abbrev pub word_rule : ℕ
word_rule = 12

abbrev pub illegal_rule : ℕ
illegal_rule = 13

abbrev pub unrecognized_rule : ℕ
unrecognized_rule = 14

abbrev pub bang_rule : ℕ
bang_rule = 15

abbrev pub open_quote_rule : ℕ
open_quote_rule = 16

abbrev pub open_blob_rule : ℕ
open_blob_rule = 17

abbrev pub odd_blob_rule : ℕ
odd_blob_rule = 18

abbrev pub nameless_rule : ℕ
nameless_rule = 19

abbrev pub unclosed_rule : ℕ
unclosed_rule = 20

abbrev pub underscore_rule : ℕ
underscore_rule = 21

abbrev pub word_after_integer_rule : ℕ
word_after_integer_rule = 22

abbrev pub word_after_fraction_rule : ℕ
word_after_fraction_rule = 23

abbrev pub no_exponent_rule : ℕ
no_exponent_rule = 24

abbrev pub word_after_exponent_rule : ℕ
word_after_exponent_rule = 25

abbrev pub no_hexdigit_rule : ℕ
no_hexdigit_rule = 26

abbrev pub underscore_after_x_rule : ℕ
underscore_after_x_rule = 27

abbrev pub hex_underscore_rule : ℕ
hex_underscore_rule = 28

abbrev pub word_after_hex_rule : ℕ
word_after_hex_rule = 29
