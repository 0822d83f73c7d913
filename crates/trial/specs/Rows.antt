-- Answers of the published lexer (OffsetPastEnd added), made from oracle/answers.vec by tools/trial. Assumes nothing.
use Rattle.std.specs.Prelude.{List, [], ◌∷◌}
use Rattle.trial.specs.Lines.{Line, line}

unfoldable pub rows : List Line
rows =
    line "" 0 "END,0" ∷
    line "3a3a3a" 0 "UnrecognizedToken,0,3,0" ∷
    line "2e6535" 0 "TK_DOT,0,1 TK_ID,1,2 END,3" ∷
    line "53454c45435420312e652d313b0a" 0 "TK_SELECT,0,6 TK_NONE,6,1 TK_FLOAT,7,5 TK_SEMI,12,1 TK_NONE,13,1 END,14" ∷
    line "06" 0 "UnrecognizedToken,0,1,1" ∷
    line "0e" 0 "UnrecognizedToken,0,1,1" ∷
    line "16" 0 "UnrecognizedToken,0,1,1" ∷
    line "1e" 0 "UnrecognizedToken,0,1,1" ∷
    line "26" 0 "TK_BITAND,0,1 END,1" ∷
    line "2e" 0 "TK_DOT,0,1 END,1" ∷
    line "36" 0 "TK_INTEGER,0,1 END,1" ∷
    line "3e" 0 "TK_GT,0,1 END,1" ∷
    line "46" 0 "TK_ID,0,1 END,1" ∷
    line "4e" 0 "TK_ID,0,1 END,1" ∷
    line "56" 0 "TK_ID,0,1 END,1" ∷
    line "5e" 0 "UnrecognizedToken,0,1,1" ∷
    line "66" 0 "TK_ID,0,1 END,1" ∷
    line "6e" 0 "TK_ID,0,1 END,1" ∷
    line "76" 0 "TK_ID,0,1 END,1" ∷
    line "7e" 0 "TK_BITNOT,0,1 END,1" ∷
    line "86" 0 "TK_ID,0,1 END,1" ∷
    line "8e" 0 "TK_ID,0,1 END,1" ∷
    line "96" 0 "TK_ID,0,1 END,1" ∷
    line "9e" 0 "TK_ID,0,1 END,1" ∷
    line "a6" 0 "TK_ID,0,1 END,1" ∷
    line "ae" 0 "TK_ID,0,1 END,1" ∷
    line "b6" 0 "TK_ID,0,1 END,1" ∷
    line "be" 0 "TK_ID,0,1 END,1" ∷
    line "c6" 0 "TK_ID,0,1 END,1" ∷
    line "ce" 0 "TK_ID,0,1 END,1" ∷
    line "d6" 0 "TK_ID,0,1 END,1" ∷
    line "de" 0 "TK_ID,0,1 END,1" ∷
    line "e6" 0 "TK_ID,0,1 END,1" ∷
    line "ee" 0 "TK_ID,0,1 END,1" ∷
    line "f6" 0 "TK_ID,0,1 END,1" ∷
    line "fe" 0 "TK_ID,0,1 END,1" ∷
    line "6106" 0 "TK_ID,0,1 UnrecognizedToken,1,1,2" ∷
    line "610e" 0 "TK_ID,0,1 UnrecognizedToken,1,1,2" ∷
    line "6116" 0 "TK_ID,0,1 UnrecognizedToken,1,1,2" ∷
    line "611e" 0 "TK_ID,0,1 UnrecognizedToken,1,1,2" ∷
    line "6126" 0 "TK_ID,0,1 TK_BITAND,1,1 END,2" ∷
    line "612e" 0 "TK_ID,0,1 TK_DOT,1,1 END,2" ∷
    line "6136" 0 "TK_ID,0,2 END,2" ∷
    line "613e" 0 "TK_ID,0,1 TK_GT,1,1 END,2" ∷
    line "6146" 0 "TK_ID,0,2 END,2" ∷
    line "614e" 0 "TK_ID,0,2 END,2" ∷
    line "6156" 0 "TK_ID,0,2 END,2" ∷
    line "615e" 0 "TK_ID,0,1 UnrecognizedToken,1,1,2" ∷
    line "6166" 0 "TK_ID,0,2 END,2" ∷
    line "616e" 0 "TK_ID,0,2 END,2" ∷
    line "6176" 0 "TK_ID,0,2 END,2" ∷
    line "617e" 0 "TK_ID,0,1 TK_BITNOT,1,1 END,2" ∷
    line "6186" 0 "TK_ID,0,2 END,2" ∷
    line "618e" 0 "TK_ID,0,2 END,2" ∷
    line "6196" 0 "TK_ID,0,2 END,2" ∷
    line "619e" 0 "TK_ID,0,2 END,2" ∷
    line "61a6" 0 "TK_ID,0,2 END,2" ∷
    line "61ae" 0 "TK_ID,0,2 END,2" ∷
    line "61b6" 0 "TK_ID,0,2 END,2" ∷
    line "61be" 0 "TK_ID,0,2 END,2" ∷
    line "61c6" 0 "TK_ID,0,2 END,2" ∷
    line "61ce" 0 "TK_ID,0,2 END,2" ∷
    line "61d6" 0 "TK_ID,0,2 END,2" ∷
    line "61de" 0 "TK_ID,0,2 END,2" ∷
    line "61e6" 0 "TK_ID,0,2 END,2" ∷
    line "61ee" 0 "TK_ID,0,2 END,2" ∷
    line "61f6" 0 "TK_ID,0,2 END,2" ∷
    line "61fe" 0 "TK_ID,0,2 END,2" ∷
    line "0a0a" 0 "TK_NONE,0,2 END,2" ∷
    line "0c20" 0 "TK_NONE,0,2 END,2" ∷
    line "200c" 0 "TK_NONE,0,2 END,2" ∷
    line "096109" 0 "TK_NONE,0,1 TK_ID,1,1 TK_NONE,2,1 END,3" ∷
    line "090b20610d" 0 "TK_NONE,0,1 UnrecognizedToken,1,1,2" ∷
    line "0a610a" 0 "TK_NONE,0,1 TK_ID,1,1 TK_NONE,2,1 END,3" ∷
    line "0a0b206120" 0 "TK_NONE,0,1 UnrecognizedToken,1,1,2" ∷
    line "0c610c" 0 "TK_NONE,0,1 TK_ID,1,1 TK_NONE,2,1 END,3" ∷
    line "0d0b09" 0 "TK_NONE,0,1 UnrecognizedToken,1,1,2" ∷
    line "0d610d" 0 "TK_NONE,0,1 TK_ID,1,1 TK_NONE,2,1 END,3" ∷
    line "200b0a" 0 "TK_NONE,0,1 UnrecognizedToken,1,1,2" ∷
    line "206120" 0 "TK_NONE,0,1 TK_ID,1,1 TK_NONE,2,1 END,3" ∷
    line "0d0a0d0a" 0 "TK_NONE,0,4 END,4" ∷
    line "0161273b310962" 0 "UnrecognizedToken,0,5,5" ∷
    line "0261273b310a62" 0 "UnrecognizedToken,0,5,5" ∷
    line "0361273b310c62" 0 "UnrecognizedToken,0,5,5" ∷
    line "0461273b310d62" 0 "UnrecognizedToken,0,5,5" ∷
    line "0561273b312062" 0 "UnrecognizedToken,0,5,5" ∷
    line "06280b80" 0 "UnrecognizedToken,0,4,4" ∷
    line "31203b07" 0 "TK_INTEGER,0,1 TK_NONE,1,1 TK_SEMI,2,1 UnrecognizedToken,3,1,4" ∷
    line "0b61273b310962" 0 "UnrecognizedToken,0,5,5" ∷
    line "0e61273b310a62" 0 "UnrecognizedToken,0,5,5" ∷
    line "0f61273b310c62" 0 "UnrecognizedToken,0,5,5" ∷
    line "1061273b310d62" 0 "UnrecognizedToken,0,5,5" ∷
    line "1161273b312062" 0 "UnrecognizedToken,0,5,5" ∷
    line "12280b80" 0 "UnrecognizedToken,0,4,4" ∷
    line "31203b13" 0 "TK_INTEGER,0,1 TK_NONE,1,1 TK_SEMI,2,1 UnrecognizedToken,3,1,4" ∷
    line "1561273b310962" 0 "UnrecognizedToken,0,5,5" ∷
    line "1661273b310a62" 0 "UnrecognizedToken,0,5,5" ∷
    line "1761273b310c62" 0 "UnrecognizedToken,0,5,5" ∷
    line "1861273b310d62" 0 "UnrecognizedToken,0,5,5" ∷
    line "1961273b312062" 0 "UnrecognizedToken,0,5,5" ∷
    line "1a280b80" 0 "UnrecognizedToken,0,4,4" ∷
    line "31203b1b" 0 "TK_INTEGER,0,1 TK_NONE,1,1 TK_SEMI,2,1 UnrecognizedToken,3,1,4" ∷
    line "1d61273b310962" 0 "UnrecognizedToken,0,5,5" ∷
    line "1e61273b310a62" 0 "UnrecognizedToken,0,5,5" ∷
    line "1f61273b310c62" 0 "UnrecognizedToken,0,5,5" ∷
    line "5c61273b310d62" 0 "UnrecognizedToken,0,5,5" ∷
    line "5e61273b312062" 0 "UnrecognizedToken,0,5,5" ∷
    line "7b280b80" 0 "UnrecognizedToken,0,4,4" ∷
    line "31203b7d" 0 "TK_INTEGER,0,1 TK_NONE,1,1 TK_SEMI,2,1 UnrecognizedToken,3,1,4" ∷
    line "2d2d" 0 "TK_NONE,0,2 END,2" ∷
    line "2d2d780a" 0 "TK_NONE,0,4 END,4" ∷
    line "2d2d2d" 0 "TK_NONE,0,3 END,3" ∷
    line "2d2d2d780a" 0 "TK_NONE,0,5 END,5" ∷
    line "2d2d2f2a27" 0 "TK_NONE,0,5 END,5" ∷
    line "2d2d2f2a27780a" 0 "TK_NONE,0,7 END,7" ∷
    line "2d202d" 0 "TK_MINUS,0,1 TK_NONE,1,1 TK_MINUS,2,1 END,3" ∷
    line "2f2a2a" 0 "TK_NONE,0,3 END,3" ∷
    line "2f2a2a2f2a2f62" 0 "TK_NONE,0,4 TK_STAR,4,1 TK_SLASH,5,1 TK_ID,6,1 END,7" ∷
    line "2f2a2f612a2f62" 0 "TK_NONE,0,6 TK_ID,6,1 END,7" ∷
    line "2f2a2a2a2a2a2f62" 0 "TK_NONE,0,7 TK_ID,7,1 END,8" ∷
    line "2f2a2a2f2f2a2f62" 0 "TK_NONE,0,4 TK_NONE,4,4 END,8" ∷
    line "2f2a2a61612a2f62" 0 "TK_NONE,0,7 TK_ID,7,1 END,8" ∷
    line "2f2a2f2f2a2a2f62" 0 "TK_NONE,0,7 TK_ID,7,1 END,8" ∷
    line "2f2a2f612f2a2f62" 0 "TK_NONE,0,7 TK_ID,7,1 END,8" ∷
    line "2f2a612a612a2f62" 0 "TK_NONE,0,7 TK_ID,7,1 END,8" ∷
    line "2f2a61612a2a2f62" 0 "TK_NONE,0,7 TK_ID,7,1 END,8" ∷
    line "2f202a" 0 "TK_SLASH,0,1 TK_NONE,1,1 TK_STAR,2,1 END,3" ∷
    line "232061" 0 "TK_ILLEGAL,0,1 TK_NONE,1,1 TK_ID,2,1 END,3" ∷
    line "61232e" 0 "TK_ID,0,1 TK_ILLEGAL,1,1 TK_DOT,2,1 END,3" ∷
    line "23232e" 0 "TK_ILLEGAL,0,1 TK_ILLEGAL,1,1 TK_DOT,2,1 END,3" ∷
    line "2826" 0 "TK_LP,0,1 TK_BITAND,1,1 END,2" ∷
    line "293e" 0 "TK_RP,0,1 TK_GT,1,1 END,2" ∷
    line "3b2a" 0 "TK_SEMI,0,1 TK_STAR,1,1 END,2" ∷
    line "2b2d" 0 "TK_PLUS,0,1 TK_MINUS,1,1 END,2" ∷
    line "2b2e" 0 "TK_PLUS,0,1 TK_DOT,1,1 END,2" ∷
    line "2a26" 0 "TK_STAR,0,1 TK_BITAND,1,1 END,2" ∷
    line "253e" 0 "TK_REM,0,1 TK_GT,1,1 END,2" ∷
    line "2c2a" 0 "TK_COMMA,0,1 TK_STAR,1,1 END,2" ∷
    line "7e2d" 0 "TK_BITNOT,0,1 TK_MINUS,1,1 END,2" ∷
    line "7e2e" 0 "TK_BITNOT,0,1 TK_DOT,1,1 END,2" ∷
    line "5b26" 0 "TK_LBRACKET,0,1 TK_BITAND,1,1 END,2" ∷
    line "5d3e" 0 "TK_RBRACKET,0,1 TK_GT,1,1 END,2" ∷
    line "2d3c" 0 "TK_MINUS,0,1 TK_LT,1,1 END,2" ∷
    line "2f2f" 0 "TK_SLASH,0,1 TK_SLASH,1,1 END,2" ∷
    line "3c2d" 0 "TK_LT,0,1 TK_MINUS,1,1 END,2" ∷
    line "3c2e" 0 "TK_LT,0,1 TK_DOT,1,1 END,2" ∷
    line "3e26" 0 "TK_GT,0,1 TK_BITAND,1,1 END,2" ∷
    line "7c3e" 0 "TK_BITOR,0,1 TK_GT,1,1 END,2" ∷
    line "262a" 0 "TK_BITAND,0,1 TK_STAR,1,1 END,2" ∷
    line "2e2d" 0 "TK_DOT,0,1 TK_MINUS,1,1 END,2" ∷
    line "2e2e" 0 "TK_DOT,0,1 TK_DOT,1,1 END,2" ∷
    line "3a26" 0 "TK_COLON,0,1 TK_BITAND,1,1 END,2" ∷
    line "3d3e" 0 "TK_EQ,0,1 TK_GT,1,1 END,2" ∷
    line "2820" 0 "TK_LP,0,1 TK_NONE,1,1 END,2" ∷
    line "3b61" 0 "TK_SEMI,0,1 TK_ID,1,1 END,2" ∷
    line "2b277327" 0 "TK_PLUS,0,1 TK_STRING,1,3 END,4" ∷
    line "2531" 0 "TK_REM,0,1 TK_INTEGER,1,1 END,2" ∷
    line "2c21" 0 "TK_COMMA,0,1 ExpectedEqualsSign,1,1,1" ∷
    line "5b20" 0 "TK_LBRACKET,0,1 TK_NONE,1,1 END,2" ∷
    line "2d61" 0 "TK_MINUS,0,1 TK_ID,1,1 END,2" ∷
    line "2f277327" 0 "TK_SLASH,0,1 TK_STRING,1,3 END,4" ∷
    line "3e31" 0 "TK_GT,0,1 TK_INTEGER,1,1 END,2" ∷
    line "7c21" 0 "TK_BITOR,0,1 ExpectedEqualsSign,1,1,1" ∷
    line "2e20" 0 "TK_DOT,0,1 TK_NONE,1,1 END,2" ∷
    line "3d61" 0 "TK_EQ,0,1 TK_ID,1,1 END,2" ∷
    line "312b" 0 "TK_INTEGER,0,1 TK_PLUS,1,1 END,2" ∷
    line "312f" 0 "TK_INTEGER,0,1 TK_SLASH,1,1 END,2" ∷
    line "2028" 0 "TK_NONE,0,1 TK_LP,1,1 END,2" ∷
    line "205b" 0 "TK_NONE,0,1 TK_LBRACKET,1,1 END,2" ∷
    line "202e" 0 "TK_NONE,0,1 TK_DOT,1,1 END,2" ∷
    line "27732725" 0 "TK_STRING,0,3 TK_REM,3,1 END,4" ∷
    line "2773273e" 0 "TK_STRING,0,3 TK_GT,3,1 END,4" ∷
    line "213b" 0 "ExpectedEqualsSign,0,1,0" ∷
    line "212d" 0 "ExpectedEqualsSign,0,1,0" ∷
    line "213d" 0 "TK_NE,0,2 END,2" ∷
    line "2d3e26" 0 "TK_PTR,0,2 TK_BITAND,2,1 END,3" ∷
    line "2d3e3e3e" 0 "TK_PTR,0,3 TK_GT,3,1 END,4" ∷
    line "3d3d2a" 0 "TK_EQ,0,2 TK_STAR,2,1 END,3" ∷
    line "3c3d2d" 0 "TK_LE,0,2 TK_MINUS,2,1 END,3" ∷
    line "3c3d2e" 0 "TK_LE,0,2 TK_DOT,2,1 END,3" ∷
    line "3c3c26" 0 "TK_LSHIFT,0,2 TK_BITAND,2,1 END,3" ∷
    line "3c3e3e" 0 "TK_NE,0,2 TK_GT,2,1 END,3" ∷
    line "3e3d2a" 0 "TK_GE,0,2 TK_STAR,2,1 END,3" ∷
    line "3e3e2d" 0 "TK_RSHIFT,0,2 TK_MINUS,2,1 END,3" ∷
    line "3e3e2e" 0 "TK_RSHIFT,0,2 TK_DOT,2,1 END,3" ∷
    line "213d26" 0 "TK_NE,0,2 TK_BITAND,2,1 END,3" ∷
    line "7c7c3e" 0 "TK_CONCAT,0,2 TK_GT,2,1 END,3" ∷
    line "26262a" 0 "TK_ARRAY_OVERLAP,0,2 TK_STAR,2,1 END,3" ∷
    line "403e2d" 0 "TK_ARRAY_CONTAINS,0,2 TK_MINUS,2,1 END,3" ∷
    line "403e2e" 0 "TK_ARRAY_CONTAINS,0,2 TK_DOT,2,1 END,3" ∷
    line "2d3e3e31" 0 "TK_PTR,0,3 TK_INTEGER,3,1 END,4" ∷
    line "3d3d21" 0 "TK_EQ,0,2 ExpectedEqualsSign,2,1,2" ∷
    line "3c3c20" 0 "TK_LSHIFT,0,2 TK_NONE,2,1 END,3" ∷
    line "3e3d61" 0 "TK_GE,0,2 TK_ID,2,1 END,3" ∷
    line "3e3e277327" 0 "TK_RSHIFT,0,2 TK_STRING,2,3 END,5" ∷
    line "7c7c31" 0 "TK_CONCAT,0,2 TK_INTEGER,2,1 END,3" ∷
    line "262621" 0 "TK_ARRAY_OVERLAP,0,2 ExpectedEqualsSign,2,1,2" ∷
    line "613d3d" 0 "TK_ID,0,1 TK_EQ,1,2 END,3" ∷
    line "612626" 0 "TK_ID,0,1 TK_ARRAY_OVERLAP,1,2 END,3" ∷
    line "313e3d" 0 "TK_INTEGER,0,1 TK_GE,1,2 END,3" ∷
    line "203d3d" 0 "TK_NONE,0,1 TK_EQ,1,2 END,3" ∷
    line "202626" 0 "TK_NONE,0,1 TK_ARRAY_OVERLAP,1,2 END,3" ∷
    line "2773273e3d" 0 "TK_STRING,0,3 TK_GE,3,2 END,5" ∷
    line "213c3d" 0 "ExpectedEqualsSign,0,1,0" ∷
    line "21403e" 0 "ExpectedEqualsSign,0,1,0" ∷
    line "612120" 0 "TK_ID,0,1 ExpectedEqualsSign,1,1,1" ∷
    line "213d213c" 0 "TK_NE,0,2 ExpectedEqualsSign,2,1,2" ∷
    line "20213c" 0 "TK_NONE,0,1 ExpectedEqualsSign,1,1,1" ∷
    line "276161" 0 "UnterminatedLiteral,0,3,0" ∷
    line "27616161" 0 "UnterminatedLiteral,0,4,0" ∷
    line "2727616161" 0 "TK_STRING,0,2 TK_ID,2,3 END,5" ∷
    line "2761616161" 0 "UnterminatedLiteral,0,5,0" ∷
    line "272d2d" 0 "UnterminatedLiteral,0,3,0" ∷
    line "222222" 0 "UnterminatedLiteral,0,3,0" ∷
    line "22612222" 0 "UnterminatedLiteral,0,4,0" ∷
    line "2222612222" 0 "TK_ID,0,2 TK_ID,2,1 TK_ID,3,2 END,5" ∷
    line "2261612222" 0 "UnterminatedLiteral,0,5,0" ∷
    line "22602220" 0 "TK_ID,0,3 TK_NONE,3,1 END,4" ∷
    line "2280ff2220" 0 "TK_ID,0,4 TK_NONE,4,1 END,5" ∷
    line "60606061" 0 "UnterminatedLiteral,0,4,0" ∷
    line "6060606061" 0 "TK_ID,0,4 TK_ID,4,1 END,5" ∷
    line "6061606061" 0 "UnterminatedLiteral,0,5,0" ∷
    line "60276020" 0 "TK_ID,0,3 TK_NONE,3,1 END,4" ∷
    line "602f2a3b" 0 "UnterminatedLiteral,0,4,0" ∷
    line "78276161" 0 "UnterminatedLiteral,0,4,0" ∷
    line "78276767" 0 "UnterminatedLiteral,0,2,0" ∷
    line "7827616727" 0 "UnterminatedLiteral,0,3,0" ∷
    line "7827276761" 0 "TK_BLOB,0,3 TK_ID,3,2 END,5" ∷
    line "7827672767" 0 "UnterminatedLiteral,0,2,0" ∷
    line "7827302727" 0 "UnrecognizedToken,0,4,0" ∷
    line "782730463927" 0 "UnrecognizedToken,0,6,0" ∷
    line "78274161466622" 0 "UnterminatedLiteral,0,6,0" ∷
    line "78273020662761" 0 "UnterminatedLiteral,0,3,0" ∷
    line "78275f30" 0 "UnterminatedLiteral,0,2,0" ∷
    line "782730272722" 0 "UnrecognizedToken,0,4,0" ∷
    line "5827302761" 0 "UnrecognizedToken,0,4,0" ∷
    line "5827304639" 0 "UnterminatedLiteral,0,5,0" ∷
    line "5827416146662727" 0 "TK_BLOB,0,7 UnterminatedLiteral,7,1,7" ∷
    line "582730206627" 0 "UnterminatedLiteral,0,3,0" ∷
    line "582730ff22" 0 "UnterminatedLiteral,0,3,0" ∷
    line "58273027272727" 0 "UnrecognizedToken,0,4,0" ∷
    line "5f7827313127" 0 "TK_ID,0,2 TK_STRING,2,4 END,6" ∷
    line "3120" 0 "TK_INTEGER,0,1 TK_NONE,1,1 END,2" ∷
    line "313224" 0 "TK_INTEGER,0,2 UnrecognizedToken,2,1,2" ∷
    line "2e80" 0 "TK_DOT,0,1 TK_ID,1,1 END,2" ∷
    line "2e355f" 0 "BadNumber,1,2,0" ∷
    line "312e78" 0 "TK_FLOAT,0,2 TK_ID,2,1 END,3" ∷
    line "312e3565" 0 "BadExponentPart,3,1,0" ∷
    line "312e3520" 0 "TK_FLOAT,0,3 TK_NONE,3,1 END,4" ∷
    line "31653524" 0 "TK_FLOAT,0,3 UnrecognizedToken,3,1,3" ∷
    line "31452b3578" 0 "BadExponentPart,1,3,0" ∷
    line "31652d3561" 0 "BadExponentPart,1,3,0" ∷
    line "31652d352b" 0 "TK_FLOAT,0,4 TK_PLUS,4,1 END,5" ∷
    line "31655f3524" 0 "TK_FLOAT,0,4 UnrecognizedToken,4,1,4" ∷
    line "312e653578" 0 "BadExponentPart,2,2,0" ∷
    line "312e452b3561" 0 "BadExponentPart,2,3,0" ∷
    line "312e452b352b" 0 "TK_FLOAT,0,5 TK_PLUS,5,1 END,6" ∷
    line "312e652d3580" 0 "BadExponentPart,2,3,0" ∷
    line "312e655f3545" 0 "BadExponentPart,2,3,0" ∷
    line "312e356535" 0 "TK_FLOAT,0,5 END,5" ∷
    line "312e3565352e" 0 "TK_FLOAT,0,5 TK_DOT,5,1 END,6" ∷
    line "312e35452b355f" 0 "BadNumber,5,2,0" ∷
    line "312e35652d3565" 0 "BadExponentPart,3,3,0" ∷
    line "312e35652d3520" 0 "TK_FLOAT,0,6 TK_NONE,6,1 END,7" ∷
    line "312e35655f3524" 0 "TK_FLOAT,0,6 UnrecognizedToken,6,1,6" ∷
    line "2e35653578" 0 "BadExponentPart,2,2,0" ∷
    line "2e35452b3561" 0 "BadExponentPart,2,3,0" ∷
    line "2e35452b352b" 0 "TK_FLOAT,0,5 TK_PLUS,5,1 END,6" ∷
    line "2e35652d3580" 0 "BadExponentPart,2,3,0" ∷
    line "2e35655f3545" 0 "BadExponentPart,2,3,0" ∷
    line "303037" 0 "TK_INTEGER,0,3 END,3" ∷
    line "5f5f3132" 0 "TK_ID,0,4 END,4" ∷
    line "5f5f312e" 0 "TK_ID,0,3 TK_DOT,3,1 END,4" ∷
    line "312e5f35" 0 "TK_FLOAT,0,2 TK_ID,2,2 END,4" ∷
    line "31325f5f2e3334" 0 "BadNumber,1,2,0" ∷
    line "5f316535" 0 "TK_ID,0,4 END,4" ∷
    line "315f652d36" 0 "BadNumber,1,1,0" ∷
    line "31652d36" 0 "TK_FLOAT,0,4 END,4" ∷
    line "312e65355f5f" 0 "BadNumber,3,2,0" ∷
    line "312e355f5f652d36" 0 "BadNumber,2,2,0" ∷
    line "5f31452b3536" 0 "TK_ID,0,3 TK_PLUS,3,1 TK_INTEGER,4,2 END,6" ∷
    line "31452b355f36" 0 "TK_FLOAT,0,6 END,6" ∷
    line "2e5f5f35" 0 "TK_DOT,0,1 TK_ID,1,3 END,4" ∷
    line "2e35365f6537" 0 "BadNumber,1,3,0" ∷
    line "5f5f31322e3334653536" 0 "TK_ID,0,4 TK_FLOAT,4,6 END,10" ∷
    line "31322e335f5f34653536" 0 "BadNumber,3,2,0" ∷
    line "31322e33346535365f5f" 0 "BadNumber,6,3,0" ∷
    line "3078315f32" 0 "TK_INTEGER,0,5 END,5" ∷
    line "305f5f586142" 0 "BadNumber,1,1,0" ∷
    line "315f325f33" 0 "TK_INTEGER,0,5 END,5" ∷
    line "312e325f335f78" 0 "BadNumber,4,2,0" ∷
    line "3165325f335f34" 0 "TK_FLOAT,0,7 END,7" ∷
    line "316578" 0 "BadExponentPart,1,1,0" ∷
    line "31452b78" 0 "BadExponentPart,1,2,0" ∷
    line "31452bff" 0 "BadExponentPart,1,2,0" ∷
    line "31652d24" 0 "BadExponentPart,1,2,0" ∷
    line "312e6524" 0 "BadExponentPart,2,1,0" ∷
    line "312e452b5f5f35" 0 "BadNumber,4,1,0" ∷
    line "312e652d5f" 0 "BadNumber,4,1,0" ∷
    line "312e356520" 0 "BadExponentPart,3,1,0" ∷
    line "312e35452b" 0 "BadExponentPart,3,2,0" ∷
    line "312e35452b2e35" 0 "BadExponentPart,3,2,0" ∷
    line "312e35652d2b" 0 "BadExponentPart,3,2,0" ∷
    line "2e35655f5f35" 0 "BadNumber,3,1,0" ∷
    line "2e35452b5f" 0 "BadNumber,4,1,0" ∷
    line "2e35652d78" 0 "BadExponentPart,2,2,0" ∷
    line "2e35652dff" 0 "BadExponentPart,2,2,0" ∷
    line "315f326524" 0 "BadExponentPart,3,1,0" ∷
    line "315f32452b5f5f35" 0 "BadNumber,5,1,0" ∷
    line "315f32652d5f" 0 "BadNumber,5,1,0" ∷
    line "307831" 0 "TK_INTEGER,0,3 END,3" ∷
    line "307867" 0 "MalformedHexInteger,0,2,0" ∷
    line "3078312e35" 0 "TK_INTEGER,0,3 TK_FLOAT,3,2 END,5" ∷
    line "30586146" 0 "TK_INTEGER,0,4 END,4" ∷
    line "3058315f67" 0 "BadNumber,2,2,0" ∷
    line "30583124" 0 "TK_INTEGER,0,3 UnrecognizedToken,3,1,3" ∷
    line "305827313127" 0 "MalformedHexInteger,0,2,0" ∷
    line "31305831" 0 "BadNumber,0,2,0" ∷
    line "305f306578" 0 "BadExponentPart,3,1,0" ∷
    line "302e30785f" 0 "BadFractionalPart,1,2,0" ∷
    line "30653078" 0 "BadExponentPart,1,2,0" ∷
    line "302065" 0 "TK_INTEGER,0,1 TK_NONE,1,1 TK_ID,2,1 END,3" ∷
    line "3f24" 0 "TK_VARIABLE,0,1 UnrecognizedToken,1,1,1" ∷
    line "3f3124" 0 "TK_VARIABLE,0,2 UnrecognizedToken,2,1,2" ∷
    line "3f3030393924" 0 "TK_VARIABLE,0,5 UnrecognizedToken,5,1,5" ∷
    line "243a3a" 0 "UnrecognizedToken,0,3,0" ∷
    line "24613a61" 0 "TK_VARIABLE,0,2 TK_VARIABLE,2,2 END,4" ∷
    line "243a6132" 0 "UnrecognizedToken,0,1,0" ∷
    line "2432613a" 0 "TK_VARIABLE,0,3 TK_COLON,3,1 END,4" ∷
    line "4061" 0 "TK_VARIABLE,0,2 END,2" ∷
    line "403a32" 0 "UnrecognizedToken,0,1,0" ∷
    line "40613a3a" 0 "TK_VARIABLE,0,4 END,4" ∷
    line "403a3a61" 0 "TK_VARIABLE,0,4 END,4" ∷
    line "40326132" 0 "TK_VARIABLE,0,4 END,4" ∷
    line "3a6161" 0 "TK_VARIABLE,0,3 END,3" ∷
    line "3a61613a" 0 "TK_VARIABLE,0,3 TK_COLON,3,1 END,4" ∷
    line "3a3a6161" 0 "TK_COLON,0,1 TK_VARIABLE,1,3 END,4" ∷
    line "3a3a3232" 0 "TK_COLON,0,1 TK_COLON,1,1 TK_INTEGER,2,2 END,4" ∷
    line "3a32323a" 0 "TK_COLON,0,1 TK_INTEGER,1,2 TK_COLON,3,1 END,4" ∷
    line "243a3a3a3a61" 0 "TK_VARIABLE,0,6 END,6" ∷
    line "24276127" 0 "UnrecognizedToken,0,1,0" ∷
    line "406124" 0 "TK_VARIABLE,0,3 END,3" ∷
    line "404061" 0 "UnrecognizedToken,0,1,0" ∷
    line "3a2461" 0 "TK_COLON,0,1 TK_VARIABLE,1,2 END,3" ∷
    line "3a3a3a323a3a" 0 "TK_VARIABLE,0,6 END,6" ∷
    line "24612828" 0 "UnrecognizedToken,0,4,0" ∷
    line "2461282962" 0 "TK_VARIABLE,0,4 TK_ID,4,1 END,5" ∷
    line "246128622829" 0 "TK_VARIABLE,0,6 END,6" ∷
    line "246128282828" 0 "UnrecognizedToken,0,6,0" ∷
    line "246128292862" 0 "TK_VARIABLE,0,4 TK_LP,4,1 TK_ID,5,1 END,6" ∷
    line "243a3a286129" 0 "UnrecognizedToken,0,3,0" ∷
    line "24612862293b" 0 "TK_VARIABLE,0,5 TK_SEMI,5,1 END,6" ∷
    line "4061286229" 0 "TK_VARIABLE,0,5 END,5" ∷
    line "406128293a3a62" 0 "TK_VARIABLE,0,4 TK_COLON,4,1 TK_VARIABLE,5,2 END,7" ∷
    line "3a612862" 0 "UnrecognizedToken,0,4,0" ∷
    line "3a612800ff29" 0 "TK_VARIABLE,0,6 END,6" ∷
    line "2461280a" 0 "UnrecognizedToken,0,3,0" ∷
    line "24612828286209" 0 "UnrecognizedToken,0,6,0" ∷
    line "24612828286220" 0 "UnrecognizedToken,0,6,0" ∷
    line "24613a3a62280d" 0 "UnrecognizedToken,0,6,0" ∷
    line "24613a3a62282828620c" 0 "UnrecognizedToken,0,9,0" ∷
    line "4061280a" 0 "UnrecognizedToken,0,3,0" ∷
    line "40612828286209" 0 "UnrecognizedToken,0,6,0" ∷
    line "40612828286220" 0 "UnrecognizedToken,0,6,0" ∷
    line "40613a3a62280d" 0 "UnrecognizedToken,0,6,0" ∷
    line "40613a3a62282828620c" 0 "UnrecognizedToken,0,9,0" ∷
    line "3a61280a" 0 "UnrecognizedToken,0,3,0" ∷
    line "3a612828286209" 0 "UnrecognizedToken,0,6,0" ∷
    line "3a612828286220" 0 "UnrecognizedToken,0,6,0" ∷
    line "3a613a3a62280d" 0 "UnrecognizedToken,0,6,0" ∷
    line "3a613a3a62282828620c" 0 "UnrecognizedToken,0,9,0" ∷
    line "41624f7254" 0 "TK_ABORT,0,5 END,5" ∷
    line "416354694f6e" 0 "TK_ACTION,0,6 END,6" ∷
    line "416444" 0 "TK_ADD,0,3 END,3" ∷
    line "4166546552" 0 "TK_AFTER,0,5 END,5" ∷
    line "416c4c" 0 "TK_ALL,0,3 END,3" ∷
    line "416c546552" 0 "TK_ALTER,0,5 END,5" ∷
    line "416c57615973" 0 "TK_ALWAYS,0,6 END,6" ∷
    line "416e416c597a45" 0 "TK_ANALYZE,0,7 END,7" ∷
    line "416e44" 0 "TK_AND,0,3 END,3" ∷
    line "4154" 0 "TK_ID,0,2 END,2" ∷
    line "41534353" 0 "TK_ID,0,4 END,4" ∷
    line "41545441434853" 0 "TK_ID,0,7 END,7" ∷
    line "4155544f494e4352454d454e5453" 0 "TK_ID,0,14 END,14" ∷
    line "4245464f524553" 0 "TK_ID,0,7 END,7" ∷
    line "424547494e53" 0 "TK_ID,0,6 END,6" ∷
    line "4245545745454e53" 0 "TK_ID,0,8 END,8" ∷
    line "425900" 0 "TK_BY,0,2 UnrecognizedToken,2,1,3" ∷
    line "4341534341444500" 0 "TK_CASCADE,0,7 UnrecognizedToken,7,1,8" ∷
    line "4341534500" 0 "TK_CASE,0,4 UnrecognizedToken,4,1,5" ∷
    line "434153d4" 0 "TK_ID,0,4 END,4" ∷
    line "c34845434b" 0 "TK_ID,0,5 END,5" ∷
    line "c34f4c4c415445" 0 "TK_ID,0,7 END,7" ∷
    line "434f4c55cd4e" 0 "TK_ID,0,6 END,6" ∷
    line "434f4d4d49d4" 0 "TK_ID,0,6 END,6" ∷
    line "434f4e43d55252454e54" 0 "TK_ID,0,10 END,10" ∷
    line "43cf4e464c494354" 0 "TK_ID,0,8 END,8" ∷
    line "434f4e535452c1494e54" 0 "TK_ID,0,10 END,10" ∷
    line "435245c15445" 0 "TK_ID,0,6 END,6" ∷
    line "43524fd353" 0 "TK_ID,0,5 END,5" ∷
    line "43d55252454e54" 0 "TK_ID,0,7 END,7" ∷
    line "43555252454ed45f44415445" 0 "TK_ID,0,12 END,12" ∷
    line "43555252454e545f54494d4500" 0 "TK_CTIME_KW,0,12 UnrecognizedToken,12,1,13" ∷
    line "43555252454e545f54494d455354414d5053" 0 "TK_ID,0,18 END,18" ∷
    line "44415441424153" 0 "TK_ID,0,7 END,7" ∷
    line "44454641554c" 0 "TK_ID,0,6 END,6" ∷
    line "44454645525241424c" 0 "TK_ID,0,9 END,9" ∷
    line "44454645525245" 0 "TK_ID,0,7 END,7" ∷
    line "44454c4554" 0 "TK_ID,0,5 END,5" ∷
    line "444553" 0 "TK_ID,0,3 END,3" ∷
    line "4445544143" 0 "TK_ID,0,5 END,5" ∷
    line "44495354494e43" 0 "TK_ID,0,7 END,7" ∷
    line "444f53" 0 "TK_ID,0,3 END,3" ∷
    line "44524f5053" 0 "TK_ID,0,5 END,5" ∷
    line "4541434853" 0 "TK_ID,0,5 END,5" ∷
    line "454c534553" 0 "TK_ID,0,5 END,5" ∷
    line "454e4453" 0 "TK_ID,0,4 END,4" ∷
    line "45534341504553" 0 "TK_ID,0,7 END,7" ∷
    line "45584345505453" 0 "TK_ID,0,7 END,7" ∷
    line "4558434c55444553" 0 "TK_ID,0,8 END,8" ∷
    line "4558434c555349564553" 0 "TK_ID,0,10 END,10" ∷
    line "45584953545353" 0 "TK_ID,0,7 END,7" ∷
    line "4558504c41494e53" 0 "TK_ID,0,8 END,8" ∷
    line "4641494c53" 0 "TK_ID,0,5 END,5" ∷
    line "46494c54455253" 0 "TK_ID,0,7 END,7" ∷
    line "464952535453" 0 "TK_ID,0,6 END,6" ∷
    line "464f4c4c4f57494e4753" 0 "TK_ID,0,10 END,10" ∷
    line "464f5253" 0 "TK_ID,0,4 END,4" ∷
    line "464f524549474e53" 0 "TK_ID,0,8 END,8" ∷
    line "46524f4d53" 0 "TK_ID,0,5 END,5" ∷
    line "46554c4c53" 0 "TK_ID,0,5 END,5" ∷
    line "47454e45524154454453" 0 "TK_ID,0,10 END,10" ∷
    line "474c4f4253" 0 "TK_ID,0,5 END,5" ∷
    line "47524f555053" 0 "TK_GROUPS,0,6 END,6" ∷
    line "47524fd55053" 0 "TK_ID,0,6 END,6" ∷
    line "48415649ce47" 0 "TK_ID,0,6 END,6" ∷
    line "49474e4f5245" 0 "TK_IGNORE,0,6 END,6" ∷
    line "494d4d454449415445" 0 "TK_IMMEDIATE,0,9 END,9" ∷
    line "494e" 0 "TK_IN,0,2 END,2" ∷
    line "696e646578" 0 "TK_INDEX,0,5 END,5" ∷
    line "696e6465786564" 0 "TK_INDEXED,0,7 END,7" ∷
    line "696e697469616c6c79" 0 "TK_INITIALLY,0,9 END,9" ∷
    line "696e6e6572" 0 "TK_JOIN_KW,0,5 END,5" ∷
    line "696e73657274" 0 "TK_INSERT,0,6 END,6" ∷
    line "696e7374656164" 0 "TK_INSTEAD,0,7 END,7" ∷
    line "696e74657273656374" 0 "TK_INTERSECT,0,9 END,9" ∷
    line "696e746f" 0 "TK_INTO,0,4 END,4" ∷
    line "6973" 0 "TK_IS,0,2 END,2" ∷
    line "49734e754c6c" 0 "TK_ISNULL,0,6 END,6" ∷
    line "4a6f496e" 0 "TK_JOIN,0,4 END,4" ∷
    line "4b6559" 0 "TK_KEY,0,3 END,3" ∷
    line "4c615374" 0 "TK_LAST,0,4 END,4" ∷
    line "4c654674" 0 "TK_JOIN_KW,0,4 END,4" ∷
    line "4c694b65" 0 "TK_LIKE_KW,0,4 END,4" ∷
    line "4c694d6954" 0 "TK_LIMIT,0,5 END,5" ∷
    line "4d61546348" 0 "TK_MATCH,0,5 END,5" ∷
    line "4d6154655269416c497a4564" 0 "TK_MATERIALIZED,0,12 END,12" ∷
    line "4e61547552614c" 0 "TK_JOIN_KW,0,7 END,7" ∷
    line "4e6f" 0 "TK_NO,0,2 END,2" ∷
    line "4e4f55" 0 "TK_ID,0,3 END,3" ∷
    line "4e4f5448494e" 0 "TK_ID,0,6 END,6" ∷
    line "4e4f544e554c" 0 "TK_ID,0,6 END,6" ∷
    line "4e554c" 0 "TK_ID,0,3 END,3" ∷
    line "4e554c4c5300" 0 "TK_NULLS,0,5 UnrecognizedToken,5,1,6" ∷
    line "cf46" 0 "TK_ID,0,2 END,2" ∷
    line "4f46465345d4" 0 "TK_ID,0,6 END,6" ∷
    line "4f52" 0 "TK_OR,0,2 END,2" ∷
    line "6f72646572" 0 "TK_ORDER,0,5 END,5" ∷
    line "6f7074696d697a65" 0 "TK_OPTIMIZE,0,8 END,8" ∷
    line "6f7468657273" 0 "TK_OTHERS,0,6 END,6" ∷
    line "6f75746572" 0 "TK_JOIN_KW,0,5 END,5" ∷
    line "6f766572" 0 "TK_OVER,0,4 END,4" ∷
    line "706172746974696f6e" 0 "TK_PARTITION,0,9 END,9" ∷
    line "706c616e" 0 "TK_PLAN,0,4 END,4" ∷
    line "707261676d61" 0 "TK_PRAGMA,0,6 END,6" ∷
    line "707265636564696e67" 0 "TK_PRECEDING,0,9 END,9" ∷
    line "7072696d617279" 0 "TK_PRIMARY,0,7 END,7" ∷
    line "7175657279" 0 "TK_QUERY,0,5 END,5" ∷
    line "7261697365" 0 "TK_RAISE,0,5 END,5" ∷
    line "72616e6765" 0 "TK_RANGE,0,5 END,5" ∷
    line "726563757273697665" 0 "TK_RECURSIVE,0,9 END,9" ∷
    line "7265666572656e636573" 0 "TK_REFERENCES,0,10 END,10" ∷
    line "726567657870" 0 "TK_LIKE_KW,0,6 END,6" ∷
    line "7265696e646578" 0 "TK_REINDEX,0,7 END,7" ∷
    line "72656c65617365" 0 "TK_RELEASE,0,7 END,7" ∷
    line "72656e616d65" 0 "TK_RENAME,0,6 END,6" ∷
    line "7265706c616365" 0 "TK_REPLACE,0,7 END,7" ∷
    line "72657475726e696e67" 0 "TK_RETURNING,0,9 END,9" ∷
    line "7265737472696374" 0 "TK_RESTRICT,0,8 END,8" ∷
    line "7269676874" 0 "TK_JOIN_KW,0,5 END,5" ∷
    line "726f6c6c6261636b" 0 "TK_ROLLBACK,0,8 END,8" ∷
    line "726f77" 0 "TK_ROW,0,3 END,3" ∷
    line "526f5773" 0 "TK_ROWS,0,4 END,4" ∷
    line "53415645504f494e55" 0 "TK_ID,0,9 END,9" ∷
    line "53454c454355" 0 "TK_ID,0,6 END,6" ∷
    line "534555" 0 "TK_ID,0,3 END,3" ∷
    line "5441424c46" 0 "TK_ID,0,5 END,5" ∷
    line "54454d51" 0 "TK_ID,0,4 END,4" ∷
    line "54454d504f5241525a" 0 "TK_ID,0,9 END,9" ∷
    line "5448454f" 0 "TK_ID,0,4 END,4" ∷
    line "54494554" 0 "TK_ID,0,4 END,4" ∷
    line "5450" 0 "TK_ID,0,2 END,2" ∷
    line "5452414e53414354494f" 0 "TK_ID,0,10 END,10" ∷
    line "545249474745" 0 "TK_ID,0,6 END,6" ∷
    line "545950" 0 "TK_ID,0,3 END,3" ∷
    line "554e424f554e4445" 0 "TK_ID,0,8 END,8" ∷
    line "554e494f" 0 "TK_ID,0,4 END,4" ∷
    line "554e495155" 0 "TK_ID,0,5 END,5" ∷
    line "5550444154" 0 "TK_ID,0,5 END,5" ∷
    line "5553494e" 0 "TK_ID,0,4 END,4" ∷
    line "5641435555" 0 "TK_ID,0,5 END,5" ∷
    line "56414c5545" 0 "TK_ID,0,5 END,5" ∷
    line "564945" 0 "TK_ID,0,3 END,3" ∷
    line "564952545541" 0 "TK_ID,0,6 END,6" ∷
    line "574845" 0 "TK_ID,0,3 END,3" ∷
    line "57484552" 0 "TK_ID,0,4 END,4" ∷
    line "57494e444f" 0 "TK_ID,0,5 END,5" ∷
    line "574954" 0 "TK_ID,0,3 END,3" ∷
    line "5749544849" 0 "TK_ID,0,5 END,5" ∷
    line "574954484f55" 0 "TK_ID,0,6 END,6" ∷
    line "5f2462" 0 "TK_ID,0,3 END,3" ∷
    line "5f2762" 0 "TK_ID,0,1 UnterminatedLiteral,1,2,1" ∷
    line "5f2862" 0 "TK_ID,0,1 TK_LP,1,1 TK_ID,2,1 END,3" ∷
    line "c3a92462" 0 "TK_ID,0,4 END,4" ∷
    line "c3a92762" 0 "TK_ID,0,2 UnterminatedLiteral,2,2,2" ∷
    line "c3a92862" 0 "TK_ID,0,2 TK_LP,2,1 TK_ID,3,1 END,4" ∷
    line "73656c6563745f" 0 "TK_ID,0,7 END,7" ∷
    line "73656c6563743a" 0 "TK_SELECT,0,6 TK_COLON,6,1 END,7" ∷
    line "73656c6563747f" 0 "TK_SELECT,0,6 UnrecognizedToken,6,1,7" ∷
    line "7479706520545950452054797065" 0 "TK_TYPE,0,4 TK_NONE,4,1 TK_TYPE,5,4 TK_NONE,9,1 TK_TYPE,10,4 END,14" ∷
    line "53454c45435420312e652d313b0a" 8 "TK_DOT,8,1 TK_ID,9,1 TK_MINUS,10,1 TK_INTEGER,11,1 TK_SEMI,12,1 TK_NONE,13,1 END,14" ∷
    line "53454c45435420312e652d313b0a" 114 "OffsetPastEnd,0,0,114" ∷
    line "612d3e3e276227276327207c7c207827306627" 6 "TK_STRING,6,2 TK_ID,8,1 TK_STRING,9,7 BadNumber,16,1,16" ∷
    line "612d3e3e276227276327207c7c207827306627" 14 "TK_BLOB,14,5 END,19" ∷
    line "612d3e3e276227276327207c7c207827306627" 4294967295 "OffsetPastEnd,0,0,4294967295" ∷
    line "2f2a2061202a2f202d2d20620a3b" 7 "TK_NONE,7,1 TK_NONE,8,5 TK_SEMI,13,1 END,14" ∷
    line "2f2a2061202a2f202d2d20620a3b" 15 "OffsetPastEnd,0,0,15" ∷
    line "783d3078315f662b315f322e35655f33" 5 "TK_ID,5,2 TK_PLUS,7,1 TK_FLOAT,8,8 END,16" ∷
    line "783d3078315f662b315f322e35655f33" 13 "TK_ID,13,3 END,16" ∷
    line "24613a3a62286329204064203a3a3a65203f3132" 1 "TK_ID,1,1 TK_COLON,2,1 TK_VARIABLE,3,5 TK_NONE,8,1 TK_VARIABLE,9,2 TK_NONE,11,1 TK_VARIABLE,12,4 TK_NONE,16,1 TK_VARIABLE,17,3 END,20" ∷
    line "24613a3a62286329204064203a3a3a65203f3132" 9 "TK_VARIABLE,9,2 TK_NONE,11,1 TK_VARIABLE,12,4 TK_NONE,16,1 TK_VARIABLE,17,3 END,20" ∷
    line "24613a3a62286329204064203a3a3a65203f3132" 17 "TK_VARIABLE,17,3 END,20" ∷
    line "615b313a325d202626206220403e2063" 1 "TK_LBRACKET,1,1 TK_INTEGER,2,1 TK_COLON,3,1 TK_INTEGER,4,1 TK_RBRACKET,5,1 TK_NONE,6,1 TK_ARRAY_OVERLAP,7,2 TK_NONE,9,1 TK_ID,10,1 TK_NONE,11,1 TK_ARRAY_CONTAINS,12,2 TK_NONE,14,1 TK_ID,15,1 END,16" ∷
    line "615b313a325d202626206220403e2063" 9 "TK_NONE,9,1 TK_ID,10,1 TK_NONE,11,1 TK_ARRAY_CONTAINS,12,2 TK_NONE,14,1 TK_ID,15,1 END,16" ∷
    line "615b313a325d202626206220403e2063" 17 "OffsetPastEnd,0,0,17" ∷
    line "60616060626020226322226422202765" 5 "UnterminatedLiteral,5,11,5" ∷
    line "60616060626020226322226422202765" 13 "TK_NONE,13,1 UnterminatedLiteral,14,2,14" ∷
    line "312e3561" 2 "BadNumber,2,1,2" ∷
    line "30785f31" 3 "TK_INTEGER,3,1 END,4" ∷
    line "61203c3e202162" 3 "TK_GT,3,1 TK_NONE,4,1 ExpectedEqualsSign,5,1,5" ∷
    line "c3a9204953204e4f54204e554c4c" 0 "TK_ID,0,2 TK_NONE,2,1 TK_IS,3,2 TK_NONE,5,1 TK_NOT,6,3 TK_NONE,9,1 TK_NULL,10,4 END,14" ∷
    line "c3a9204953204e4f54204e554c4c" 8 "TK_ID,8,1 TK_NONE,9,1 TK_NULL,10,4 END,14" ∷
    line "c3a9204953204e4f54204e554c4c" 114 "OffsetPastEnd,0,0,114" ∷
    line "6162200b6364206566" 6 "TK_NONE,6,1 TK_ID,7,2 END,9" ∷
    line "7827312720782731322079" 1 "TK_STRING,1,3 TK_NONE,4,1 UnterminatedLiteral,5,4,5" ∷
    line "7827312720782731322079" 9 "TK_NONE,9,1 TK_ID,10,1 END,11" ∷
    line "" 4294967295 "OffsetPastEnd,0,0,4294967295" ∷
    line "435245415445205452494747455220747220414654455220555044415445204f462061204f4e207420464f52204541434820524f5720424547494e2053454c4543542052414953452841424f52542c20276e6f27293b20454e443b" 0 "TK_CREATE,0,6 TK_NONE,6,1 TK_TRIGGER,7,7 TK_NONE,14,1 TK_ID,15,2 TK_NONE,17,1 TK_AFTER,18,5 TK_NONE,23,1 TK_UPDATE,24,6 TK_NONE,30,1 TK_OF,31,2 TK_NONE,33,1 TK_ID,34,1 TK_NONE,35,1 TK_ON,36,2 TK_NONE,38,1 TK_ID,39,1 TK_NONE,40,1 TK_FOR,41,3 TK_NONE,44,1 TK_EACH,45,4 TK_NONE,49,1 TK_ROW,50,3 TK_NONE,53,1 TK_BEGIN,54,5 TK_NONE,59,1 TK_SELECT,60,6 TK_NONE,66,1 TK_RAISE,67,5 TK_LP,72,1 TK_ABORT,73,5 TK_COMMA,78,1 TK_NONE,79,1 TK_STRING,80,4 TK_RP,84,1 TK_SEMI,85,1 TK_NONE,86,1 TK_END,87,3 TK_SEMI,90,1 END,91" ∷
    []
