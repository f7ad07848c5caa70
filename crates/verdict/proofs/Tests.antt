-- The value of each test that the code makes, from the fact that it leaves: `search tests` answers a return behind such tests.
use borrow.Author.Tests.{lt-ltb, le-ltb, le-leb, lt-leb, eq-eqb, ne_eqb}

pub ruleset tests = (lt-leb, le-leb, lt-ltb, le-ltb, eq-eqb, ne_eqb)
