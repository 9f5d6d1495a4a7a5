-- The library: texts of C and what they define.
use Rattle.std.specs.Prelude.{ℕ, List, [], ◌∷◌, ◌++◌, codes}

-- the text of the last unit, line by line
abbrev pub printf : List ℕ
printf =
    codes "int printf(const char *f,...){\n" ++
    codes "char b[12];char *v=__fsc_va();int t=0;\n" ++
    codes "while(*f){\n" ++
    codes "int left=0,zero=0,w=0,p=-1,n=0,z=0,neg=0,i=0,k;unsigned u,base=10;const char *s;char *d;\n" ++
    codes "if(*f!='%'){__fsc_put(*f++);t++;continue;}\n" ++
    codes "f++;\n" ++
    codes "while(*f=='-'||*f=='0'){if(*f=='-')left=1;else zero=1;f++;}\n" ++
    codes "while(*f>='0'&&*f<='9')w=w*10+(*f++-'0');\n" ++
    codes "if(*f=='.'){p=0;f++;while(*f>='0'&&*f<='9')p=p*10+(*f++-'0');}\n" ++
    codes "if(*f=='l'||*f=='h')f++;\n" ++
    codes "k=*f;if(k==0)break;f++;\n" ++
    codes "if(k=='s'){s=*(const char **)v;v+=4;while((p<0||n<p)&&s[n])n++;}\n" ++
    codes "else if(k=='d'||k=='i'||k=='u'||k=='x'||k=='X'||k=='o'||k=='p'){\n" ++
    codes "u=*(unsigned *)v;v+=4;\n" ++
    codes "if((k=='d'||k=='i')&&(int)u<0){neg=1;u=-u;}\n" ++
    codes "if(k=='o')base=8;if(k=='x'||k=='X'||k=='p')base=16;\n" ++
    codes "d=b+12;\n" ++
    codes "if(u||p)do{i=u%base;*--d=i<10?'0'+i:(k=='X'?'A':'a')+i-10;n++;u/=base;}while(u);\n" ++
    codes "s=d;if(p>n)z=p-n;if(p<0&&zero&&!left&&w>n+neg)z=w-n-neg;}\n" ++
    codes "else{b[0]=k;if(k=='c'){b[0]=*(int *)v;v+=4;}s=b;n=1;}\n" ++
    codes "w=w-n-z-neg;t=t+n+z+neg+(w>0?w:0);\n" ++
    codes "while(!left&&w>0){__fsc_put(' ');w--;}\n" ++
    codes "if(neg)__fsc_put('-');\n" ++
    codes "while(z>0){__fsc_put('0');z--;}\n" ++
    codes "for(i=0;i<n;i++)__fsc_put(s[i]);\n" ++
    codes "while(w>0){__fsc_put(' ');w--;}\n" ++
    codes "}\n" ++
    codes "return t;}\n"

-- the texts of the units, in the order in which they are linked
unfoldable pub texts : List (List ℕ)
texts =
    codes "int putchar(int c){return __fsc_put(c);}\n" ∷
    codes "int getchar(void){return __fsc_get();}\n" ∷
    codes "int puts(const char *s){while(*s)__fsc_put(*s++);__fsc_put('\\n');return 0;}\n" ∷
    codes "void *malloc(unsigned n){return __fsc_alloc(n);}\n" ∷
    codes "void *calloc(unsigned n,unsigned m){if(m&&n>4294967295u/m)return 0;return __fsc_alloc(n*m);}\n" ∷
    codes "void *realloc(void *p,unsigned n){void *q;unsigned m;if(!p)return __fsc_alloc(n);if(!n){__fsc_release(p);return 0;}m=__fsc_size(p);q=__fsc_alloc(n);if(q){__fsc_copy(q,p,m<n?m:n);__fsc_release(p);}return q;}\n" ∷
    codes "void free(void *p){__fsc_release(p);}\n" ∷
    codes "void exit(int s){__fsc_exit(s);}\n" ∷
    codes "void abort(void){__fsc_abort();}\n" ∷
    codes "int atoi(const char *s){int n=0,g=0;while(*s==' '||(*s>=9&&*s<=13))s++;if(*s=='-'||*s=='+')g=*s++=='-';while(*s>='0'&&*s<='9')n=n*10+(*s++-'0');return g?-n:n;}\n" ∷
    codes "int abs(int n){return n<0?-n:n;}\n" ∷
    codes "long labs(long n){return n<0?-n:n;}\n" ∷
    codes "static unsigned long next=1;int rand(void){next=next*1103515245+12345;return (unsigned)(next/65536)%32768;}void srand(unsigned s){next=s;}\n" ∷
    codes "void *memcpy(void *d,const void *s,unsigned n){__fsc_copy(d,s,n);return d;}\n" ∷
    codes "void *memmove(void *d,const void *s,unsigned n){__fsc_copy(d,s,n);return d;}\n" ∷
    codes "void *memset(void *d,int c,unsigned n){char *p=d;while(n--)*p++=c;return d;}\n" ∷
    codes "int memcmp(const void *a,const void *b,unsigned n){const char *p=a,*q=b;while(n--){if(*p!=*q)return *p-*q;p++;q++;}return 0;}\n" ∷
    codes "unsigned strlen(const char *s){unsigned n=0;while(s[n])n++;return n;}\n" ∷
    codes "char *strcpy(char *d,const char *s){char *p=d;while((*p++=*s++)!=0);return d;}\n" ∷
    codes "char *strncpy(char *d,const char *s,unsigned n){unsigned i=0;while(i<n&&s[i]){d[i]=s[i];i++;}while(i<n)d[i++]=0;return d;}\n" ∷
    codes "char *strcat(char *d,const char *s){char *p=d;while(*p)p++;while((*p++=*s++)!=0);return d;}\n" ∷
    codes "int strcmp(const char *a,const char *b){while(*a&&*a==*b){a++;b++;}return *a-*b;}\n" ∷
    codes "int strncmp(const char *a,const char *b,unsigned n){while(n&&*a&&*a==*b){a++;b++;n--;}return n?*a-*b:0;}\n" ∷
    codes "char *strchr(const char *s,int c){while(*s!=(char)c){if(!*s)return 0;s++;}return (char*)s;}\n" ∷
    codes "char *strrchr(const char *s,int c){char *r=0;do{if(*s==(char)c)r=(char*)s;}while(*s++);return r;}\n" ∷
    codes "int isdigit(int c){return c>='0'&&c<='9';}\n" ∷
    codes "int islower(int c){return c>='a'&&c<='z';}\n" ∷
    codes "int isupper(int c){return c>='A'&&c<='Z';}\n" ∷
    codes "int isalpha(int c){return (c>='a'&&c<='z')||(c>='A'&&c<='Z');}\n" ∷
    codes "int isalnum(int c){return (c>='a'&&c<='z')||(c>='A'&&c<='Z')||(c>='0'&&c<='9');}\n" ∷
    codes "int isspace(int c){return c==' '||(c>=9&&c<=13);}\n" ∷
    codes "int isprint(int c){return c>=32&&c<=126;}\n" ∷
    codes "int isgraph(int c){return c>=33&&c<=126;}\n" ∷
    codes "int iscntrl(int c){return (c>=0&&c<32)||c==127;}\n" ∷
    codes "int isxdigit(int c){return (c>='0'&&c<='9')||(c>='a'&&c<='f')||(c>='A'&&c<='F');}\n" ∷
    codes "int ispunct(int c){return c>=33&&c<=126&&!((c>='a'&&c<='z')||(c>='A'&&c<='Z')||(c>='0'&&c<='9'));}\n" ∷
    printf ∷
    []

-- the names with external linkage that each defines
unfoldable pub names : List (List (List ℕ))
names =
    (codes "putchar" ∷ []) ∷
    (codes "getchar" ∷ []) ∷
    (codes "puts" ∷ []) ∷
    (codes "malloc" ∷ []) ∷
    (codes "calloc" ∷ []) ∷
    (codes "realloc" ∷ []) ∷
    (codes "free" ∷ []) ∷
    (codes "exit" ∷ []) ∷
    (codes "abort" ∷ []) ∷
    (codes "atoi" ∷ []) ∷
    (codes "abs" ∷ []) ∷
    (codes "labs" ∷ []) ∷
    (codes "rand" ∷ codes "srand" ∷ []) ∷
    (codes "memcpy" ∷ []) ∷
    (codes "memmove" ∷ []) ∷
    (codes "memset" ∷ []) ∷
    (codes "memcmp" ∷ []) ∷
    (codes "strlen" ∷ []) ∷
    (codes "strcpy" ∷ []) ∷
    (codes "strncpy" ∷ []) ∷
    (codes "strcat" ∷ []) ∷
    (codes "strcmp" ∷ []) ∷
    (codes "strncmp" ∷ []) ∷
    (codes "strchr" ∷ []) ∷
    (codes "strrchr" ∷ []) ∷
    (codes "isdigit" ∷ []) ∷
    (codes "islower" ∷ []) ∷
    (codes "isupper" ∷ []) ∷
    (codes "isalpha" ∷ []) ∷
    (codes "isalnum" ∷ []) ∷
    (codes "isspace" ∷ []) ∷
    (codes "isprint" ∷ []) ∷
    (codes "isgraph" ∷ []) ∷
    (codes "iscntrl" ∷ []) ∷
    (codes "isxdigit" ∷ []) ∷
    (codes "ispunct" ∷ []) ∷
    (codes "printf" ∷ []) ∷
    []
