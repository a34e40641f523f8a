-- The definitions at work.
use Rattle.std.proofs.Common.{◌≡◌, ◌++◌, [], ◌∷◌, refl}
use Rattle.std.specs.List.{range_with_len}
use Rattle.jt_base.specs.declared.run.Sizes.{Sizes}
use Rattle.jt_sleep_core.specs.Numbering.{workers, served, own_queues}

abbrev one : Sizes
one = record { default = 1; interactive = 0 }

abbrev two : Sizes
two = record { default = 2; interactive = 0 }

abbrev most : Sizes
most = record { default = 64; interactive = 16 }

-- one worker: heaps 0 and 1, its line 2, and the stop queue 3
line_of_one : served one 2 ≡ 0 ∷ []
line_of_one = refl

stop_of_one : served one 3 ≡ 0 ∷ []
stop_of_one = refl

queues_of_one : own_queues one 0 ≡ 0 ∷ 1 ∷ 2 ∷ 3 ∷ []
queues_of_one = refl

-- two workers: heaps 0 to 3, lines 4 and 5, and the stop queue 6
heap_of_two : served two 3 ≡ 0 ∷ 1 ∷ []
heap_of_two = refl

line_of_two : served two 5 ≡ 1 ∷ []
line_of_two = refl

queues_of_two : own_queues two 1 ≡ 0 ∷ 1 ∷ 2 ∷ 3 ∷ 5 ∷ 6 ∷ []
queues_of_two = refl

-- 80 workers: heaps 0 to 127 and 128 to 159, lines 160 to 239, and the stop queue 240
workers_of_most : workers most ≡ 80
workers_of_most = refl

default_heap_of_most : served most 127 ≡ range_with_len 0 64
default_heap_of_most = refl

interactive_heap_of_most : served most 128 ≡ range_with_len 64 16
interactive_heap_of_most = refl

last_line_of_most : served most 239 ≡ 79 ∷ []
last_line_of_most = refl

stop_of_most : served most 240 ≡ range_with_len 0 80
stop_of_most = refl

first_queues_of_most : own_queues most 0 ≡ range_with_len 0 128 ++ 160 ∷ 240 ∷ []
first_queues_of_most = refl

last_queues_of_most : own_queues most 79 ≡ range_with_len 128 32 ++ 239 ∷ 240 ∷ []
last_queues_of_most = refl

no_queue_beyond : served most 241 ≡ []
no_queue_beyond = refl
