-- The worked examples, in one table: calls, answers, what is written and what is printed.
use Rattle.std.specs.Prelude.{◌≡◌, ℕ, List, [], ◌∷◌, ◌++◌, map, take, drop, replicate, Some, None, Ok, Err, codes}
use Rattle.costs.specs.Kinds.{points, severity, rank}
use Rattle.costs.specs.Examples.{JoiningExamples}
use Rattle.board.specs.declared.row.RowKind.TheVariants.{Open, Close, End}
use Rattle.board.specs.declared.refusal.Refusal.TheVariants.{SizeOut, NotACost, NoReading, TooLong}
use Rattle.board.specs.Refusals.{number}
use Rattle.board.specs.Content.{Content, new}
use Rattle.board.specs.Calls.{size_refusal, row_refusal, with_row_cost}
use Rattle.board.specs.Checks.{check_answer}
use Rattle.board.specs.Examples.{row, flight, flight_moves, SettlingExamples}
use Rattle.board.specs.Packing.{packed}
use Rattle.file.specs.declared.call.Call.{Call}
use Rattle.file.specs.declared.call.Call.TheVariants.{Size, AddRow, AddLine, RepriceRow, Settle, Reopen}
use Rattle.file.specs.Examples.{LayoutExamples}
use Rattle.file.specs.Layout.{written}
use Rattle.file.specs.Load.{load_after}
use Rattle.file.specs.States.{settled, state_after}
use Rattle.file.specs.Promise.{settled_cost, settled_path, path_left}
use Rattle.report.specs.Least.{LeastPrints}

-- the calls that make it of a new board, and those after which row 4 costs 30
abbrev pub flight_calls : List Call
flight_calls = Size 3 3 ∷ (map AddRow flight.rows ++ (map AddLine flight.lines ++ (Settle ∷ [])))

abbrev pub dearer_calls : List Call
dearer_calls = flight_calls ++ (Reopen ∷ RepriceRow 4 30 ∷ Settle ∷ [])

abbrev pub dearer : Content
dearer = with_row_cost flight 4 30

-- the packed moves 0 -, 1 0, 3 -, 4 1, 5 -
abbrev pub flight_packed : List ℕ
flight_packed = 0x0000 ∷ 0x0180 ∷ 0x0300 ∷ 0x0481 ∷ 0x0500 ∷ []

-- the file of it
abbrev pub flight_file : List ℕ
flight_file = written (record { letter = 80; modes = 3; moments = 3; trust = 16; rows = Some flight.rows; lines = Some flight.lines; note = None })

-- one end row at mode 0 and cost 0
abbrev pub one_end : Content
one_end = record { modes = 1; moments = 1; rows = row End 0 0 0 0 0 ∷ []; lines = [] }

-- two modes, one moment: open bracket 0, close bracket n, end
abbrev pub two_brackets : ℕ → Content
two_brackets n = record { modes = 2; moments = 1; rows = row Open 0 1 0 0 2 ∷ row Close 1 1 n 0 3 ∷ row End 1 1 0 0 4 ∷ []; lines = [] }

-- the eight bytes of row 1 in that file: behind the header, the head of the rows, and row 0
abbrev pub second_row : List ℕ
second_row = take 8 (drop 14 flight_file)

-- The worked examples: those of joining, of settling and of the layout, and the flight and its neighbours.
pub record WorkedExamples : Type 0 where
  pub joining : JoiningExamples
  pub settling : SettlingExamples
  pub layout : LayoutExamples
  -- the calls make the flight, under each kind
  pub flight_made : state_after points flight_calls ≡ settled flight
  pub flight_made_severity : state_after severity flight_calls ≡ settled flight
  pub flight_made_rank : state_after rank flight_calls ≡ settled flight
  -- cost 9 with five moves; path writes them into the front of a buffer of seven; the check accepts them
  pub flight_cost : settled_cost points flight ≡ Ok (9, 5)
  pub flight_moves_packed : map packed flight_moves ≡ flight_packed
  pub flight_path : settled_path points flight (replicate 7 1) ≡ Ok 5
  pub flight_written : path_left points flight (replicate 7 1) ≡ flight_packed ++ (1 ∷ 1 ∷ [])
  pub flight_check : check_answer points flight flight_packed ≡ Ok 9
  -- a buffer of four is refused, and left
  pub short_buffer : settled_path points flight (replicate 4 1) ≡ Err TooLong
  pub short_left : path_left points flight (replicate 4 1) ≡ replicate 4 1
  -- the file's first four bytes are this header, row 1 is these eight, it loads to the flight,
  pub flight_header : take 4 flight_file ≡ 0x50 ∷ 0x06 ∷ 0x0C ∷ 0x10 ∷ []
  pub flight_row : second_row ≡ 0x01 ∷ 0x04 ∷ 0x04 ∷ 0x1C ∷ 0x00 ∷ 0x00 ∷ 0x00 ∷ 0x04 ∷ []
  pub flight_loaded : load_after points flight_file ≡ flight
  -- and this is printed
  pub flight_printed : LeastPrints flight_file (codes "P 9 5\n0 - 0\n1 0 7\n3 - 0\n4 1 9\n5 - 0\n")
  -- in severity the cost is 4
  pub severity_cost : settled_cost severity flight ≡ Ok (4, 5)
  -- row 4 repriced to 30 gives 35
  pub dearer_made : state_after points dearer_calls ≡ settled dearer
  pub dearer_cost : settled_cost points dearer ≡ Ok (35, 5)
  -- a new board has no reading; with an end row it has one move at cost 0
  pub new_none : settled_cost points new ≡ Err NoReading
  pub end_made : state_after points (AddRow (row End 0 0 0 0 0) ∷ Settle ∷ []) ≡ settled one_end
  pub end_cost : settled_cost points one_end ≡ Ok (0, 1)
  -- a bracket is closed by its own number alone
  pub other_bracket : settled_cost points (two_brackets 1) ≡ Err NoReading
  pub same_bracket : settled_cost points (two_brackets 0) ≡ Ok (9, 3)
  -- in rank, the number after the last cost is declined
  pub rank_declined : row_refusal rank new (row End 0 0 0 0 4293918720) ≡ Some NotACost
  -- 64 places at most
  pub square : size_refusal new 8 8 ≡ None
  pub oblong : size_refusal new 5 13 ≡ Some SizeOut
  -- the numbers of these refusals
  pub size_number : number SizeOut ≡ 2
  pub cost_number : number NotACost ≡ 10
  pub reading_number : number NoReading ≡ 11
  pub length_number : number TooLong ≡ 12
